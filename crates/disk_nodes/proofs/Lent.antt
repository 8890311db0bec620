-- Whether a slot is empty, by what is lent of it.
use Rattle.std.proofs.Common.{◌≡◌, true, false, Option, Some, None, is_none, is_some, sym, ap}
use Rattle.std.specs.Option.{option_copied}
use denote.Ref.{Bor}
use Rattle.sfs_base.proofs.BasicTruth.{true_not_false, false_not_true}

-- a slot is empty where no row is lent of it
pub not_lent : {X : Type 0} (row : Option (Bor X)) (slot : Option X) → option_copied row ≡ slot → is_some row ≡ false → is_none slot ≡ true
not_lent None slot same none = ap is_none (sym same)
not_lent (Some row) slot same none = absurd (true_not_false none)

-- and has a row where one is lent
pub is_lent : {X : Type 0} (row : Option (Bor X)) (slot : Option X) → option_copied row ≡ slot → is_some row ≡ true → is_none slot ≡ false
is_lent None slot same some = absurd (false_not_true some)
is_lent (Some row) slot same some = ap is_none (sym same)
