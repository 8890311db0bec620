-- Words are taken, or they are no command.
use Rattle.std.proofs.Common.{◌≡◌, inl, inr, map, string_bytes, Global, sym, ap, subst, ◌∙◌}
use Rattle.clap.specs.Kinds.{Kinds, HasKind}
use Rattle.clap.specs.Simple.{app_of, is_simple, subcommand_of}
use Rattle.clap.specs.Faults.{fault_of, is_simple_and_free}
use Rattle.words.specs.Grammar.{grammar}
use Rattle.words.proofs.Decided.{decided}
use Rattle.words.proofs.Entered.{is_free, is_plain}
use Rattle.words.proofs.asked.read.Goals as goal

pub returns-in-Ok-clause-ok : goal.returns-in-Ok-clause-ok
returns-in-Ok-clause-ok c =
    let words = map (string_bytes {Z = Global}) c.args.words.now in
    let same : app_of c.in_ok-grammar.grammar ≡ grammar = c.in_ok-grammar.ensures in
    let faultless = c.in-Ok.ensures.kinds (ap is_simple_and_free same ∙ is_free) in
    let given = c.in-Ok.ensures.matches (ap is_simple same ∙ is_plain) in
    elim (decided words c.requires.plain) [
      | inl taken ↦
          record {
            word = taken.word;
            rows = taken.rows;
            is = taken.is;
            entered = given.1 ∙ ap (λ a. subcommand_of a words) same ∙ taken.entered;
          }
      | inr none ↦ absurd (none.fault (sym (ap (λ a. fault_of a words) same) ∙ faultless))
    ]

pub returns : goal.returns
returns c =
    let words = map (string_bytes {Z = Global}) c.args.words.now in
    let same : app_of c.in_ok-grammar.grammar ≡ grammar = c.in_ok-grammar.ensures in
    let kinds = c.in-Err.ensures.kinds (ap is_simple_and_free same ∙ is_free) in
    record {
      ok = tt;
      err = elim (decided words c.requires.plain) [
        | inl taken ↦ elim (subst (λ (k : Kinds). HasKind k c.in-Err.error) (ap (λ a. fault_of a words) same ∙ taken.faultless) kinds) [
          | inl memory ↦ absurd (c.in_default.not-OutOfMemory (c.kind.ensures ∙ memory))
          | inr never ↦ absurd never
        ]
        | inr none ↦ none.none
      ];
    }
