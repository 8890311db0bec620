-- A new ledger is what labels have told before the first one.
use Rattle.std.proofs.Common.{◌≡◌, ◌∙◌, ℕ, [], get_or, replicate, Option, None, inl, inr, refl, sym, arith}
use Rattle.std.proofs.lemmas.Bool.{cases_lt}
use Rattle.std.proofs.lemmas.List.{get_or-replicate, get_or_past, length-replicate}
use Rattle.sfs_base.proofs.BasicOptions.{none_some}
use Rattle.space_map.specs.Space.{Space}
use Rattle.slot_laws.specs.Nodes.{no_last}
use Rattle.slot_laws.specs.Labels.{first_past}
use Rattle.slot_laws.specs.Grants.{NoneGranted}
use Rattle.slot_laws.proofs.NodesTold.{first_lasts}
use Rattle.slot_laws.proofs.GrantsTold.{grants_are_ones}
use Rattle.commit_ledger.specs.View.{OpenView}
use Rattle.commit_ledger.specs.Keeps.{LedgerKeeps}

abbrev nobody : Option OpenView
nobody = None

-- no core of a new ledger has an open commit
none_open : (cores core : ℕ) → get_or (replicate cores nobody) core None ≡ nobody
none_open cores core = elim (cases_lt core cores) [
  | inl within ↦ get_or-replicate cores core nobody nobody within
  | inr beyond ↦ get_or_past (replicate cores nobody) core nobody (omega (arith, length-replicate cores nobody, beyond))
]

pub first_keeps : (space : Space) (cores moment : ℕ) → NoneGranted space.inodes → NoneGranted space.blocks
    → LedgerKeeps (record { space = space; commits = 0; lasts = []; opens = replicate cores None }) (first_past moment)
first_keeps space cores moment no_inodes no_blocks = record {
  commits = refl;
  lasts = λ node. get_or_past [] node no_last (omega arith);
  opens = λ core one there. absurd (none_some (sym (none_open cores core) ∙ there));
  apart = λ core other one two there too same. absurd (none_some (sym (none_open cores core) ∙ there));
  grants =
      grants_are_ones (record { blocks = 0; inodes = 0; cores = 0; slots = 0 }) 0 moment [] space space
      (record { may = tt; no_inodes = no_inodes; no_blocks = no_blocks; goes = refl });
  fits = first_lasts moment;
}
