-- Letter and digits make a name.
use Rattle.std.proofs.Common.{rules, ◌≡◌, ◌≤◌, inl, inr, List, ℕ, None, length, sym, ap, subst, ◌∙◌}
use Rattle.sfs_base.proofs.BasicOptions.{none_some}
use Rattle.sfs_base.specs.Name.{name_fault}
use Rattle.made_script.proofs.Named.{is_name, name_is_short}
use Rattle.made_script.proofs.names.numbered.Goals as goal

pub returns-in-Ok-clause-length : goal.returns-in-Ok-clause-length
returns-in-Ok-clause-length c =
    subst (λ (name : List ℕ). length name ≤ 11) (sym (c.in-Ok.ensures.ok.0 ∙ c.as_bytes.ensures.value ∙ c.in_ok-text.ensures))
    (name_is_short c.args.letter c.args.number (search rules))

pub unreachable-requires : goal.unreachable-requires
unreachable-requires c =
    let good : name_fault c.as_bytes.result.now ≡ None =
    ap name_fault (c.as_bytes.ensures.value ∙ c.in_ok-text.ensures) ∙ is_name c.args.letter c.args.number (search rules) in
    elim c.in-Err.ensures.err [
      | inl memory ↦ absurd (c.in_default.not-NoMemory memory)
      | inr fault ↦ absurd (none_some (sym good ∙ fault))
    ]
