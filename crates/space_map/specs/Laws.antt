-- The laws of grants, each of which a function of the module laws proves.
use Rattle.std.specs.Prelude.{◌≡◌, ℕ, true, false, List, Some}
use Rattle.space_map.specs.declared.status.Status.TheVariants.{Free, Granted}
use Rattle.sfs_base.specs.Listed.{is_listed}
use Rattle.space_map.specs.Pool.{Pool, status_of, BecomeAll, Grants, Ends}

-- The end of a grant leaves every other granted number granted, also one that is listed as freed.
abbrev pub EndsLeaveOthers : Type 0
EndsLeaveOthers =
    (granted freed : List ℕ) (old new : Pool) (number : ℕ) → Ends granted freed old new → is_listed granted number ≡ false → status_of old number ≡ Some Granted
    → status_of new number ≡ Some Granted

-- So does giving a grant back.
abbrev pub ReturnsLeaveOthers : Type 0
ReturnsLeaveOthers =
    (granted : List ℕ) (old new : Pool) (number : ℕ) → BecomeAll Free granted old new → is_listed granted number ≡ false → status_of old number ≡ Some Granted
    → status_of new number ≡ Some Granted

-- Two grants, one after the other, have no number in common.
abbrev pub GrantsAreApart : Type 0
GrantsAreApart =
    (old mid new : Pool) (count other_count : ℕ) (numbers others : List ℕ) (number : ℕ) → Grants old count numbers mid → Grants mid other_count others new
    → is_listed numbers number ≡ true → is_listed others number ≡ false
