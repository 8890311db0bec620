-- One more step of a transfer.
use Rattle.std.specs.Prelude.{◌↔◌, IfSome}
use Rattle.std.proofs.Common.{◌<◌, ◌≤◌, arith, ◌≡◌, ◌∙◌, sym, ap, refl, ◌+◌, ◌-◌, ℕ, List, [], ◌++◌, Option, Some, None, length, take, drop, append_assoc}
use Rattle.std.proofs.Math.Seq.{take-add}
use Rattle.std.proofs.lemmas.List.{take_rest, append-nil}
use Rattle.std.proofs.lemmas.Grind.{common_steps}
use Rattle.std.specs.Io.KnownBytes.{Consumes, Appends, Keeps, IsAtEnd}

-- what was consumed, and then what was consumed of the rest
pub Consumes-more : (before between after : Option (List ℕ)) (taken more : List ℕ) → Consumes before between taken → Consumes between after more
    → Consumes before after (taken ++ more)
Consumes-more None between after taken more first next = tt
Consumes-more (Some bytes) None after taken more first next = absurd first
Consumes-more (Some bytes) (Some rest) None taken more first next = absurd next
Consumes-more (Some bytes) (Some rest) (Some left) taken more first next =
    first ∙ ap (λ (xs : List ℕ). taken ++ xs) next ∙ sym (append_assoc taken more left)

-- nothing consumed at all
pub Consumes-none : (before : Option (List ℕ)) → Consumes before before []
Consumes-none (Some bytes) = refl
Consumes-none None = tt

-- what is kept and then consumed
pub Consumes-kept : (before between after : Option (List ℕ)) (taken : List ℕ) → Keeps before between → Consumes between after taken
    → Consumes before after taken
Consumes-kept None between after taken kept next = tt
Consumes-kept (Some bytes) None after taken kept next = absurd kept
Consumes-kept (Some bytes) (Some rest) None taken kept next = absurd next
Consumes-kept (Some bytes) (Some rest) (Some left) taken kept next = sym kept ∙ next

-- what is kept twice is kept
pub Keeps-more : (before between after : Option (List ℕ)) → Keeps before between → Keeps between after → Keeps before after
Keeps-more None between after first next = tt
Keeps-more (Some bytes) None after first next = absurd first
Keeps-more (Some bytes) (Some same) None first next = absurd next
Keeps-more (Some bytes) (Some same) (Some left) first next = next ∙ first

pub Keeps-refl : (before : Option (List ℕ)) → Keeps before before
Keeps-refl None = tt
Keeps-refl (Some bytes) = refl

-- what is kept and then appended to
pub Appends-kept : (before between after : Option (List ℕ)) (added : List ℕ) → Keeps before between → Appends between after added → Appends before after added
Appends-kept None between after added kept next = tt
Appends-kept (Some bytes) None after added kept next = absurd kept
Appends-kept (Some bytes) (Some rest) None added kept next = absurd next
Appends-kept (Some bytes) (Some rest) (Some left) added kept next = next ∙ ap (λ (xs : List ℕ). xs ++ added) kept

-- what was appended, and then kept
pub Appends-then-kept : (before between after : Option (List ℕ)) (added : List ℕ) → Appends before between added → Keeps between after
    → Appends before after added
Appends-then-kept None between after added first kept = tt
Appends-then-kept (Some bytes) None after added first kept = absurd first
Appends-then-kept (Some bytes) (Some rest) None added first kept = absurd kept
Appends-then-kept (Some bytes) (Some rest) (Some left) added first kept = kept ∙ first

-- nothing appended at all
pub Appends-none : (before : Option (List ℕ)) (bytes : List ℕ) → Appends before before (take 0 bytes)
Appends-none None bytes = tt
Appends-none (Some written) bytes = sym (append-nil written)

-- the front of the bytes was appended, and then the front of the rest
pub Appends-more : (bytes : List ℕ) (at count : ℕ) (start before after : Option (List ℕ)) → Appends start before (take at bytes)
    → Appends before after (take count (take (length bytes - at) (drop at bytes))) → Appends start after (take (at + count) bytes)
Appends-more bytes at count None before after first second = tt
Appends-more bytes at count (Some written) None after first second = absurd first
Appends-more bytes at count (Some written) (Some middle) None first second = absurd second
Appends-more bytes at count (Some written) (Some middle) (Some last) first second =
    second
    ∙ ap (λ (xs : List ℕ). xs ++ take count (take (length bytes - at) (drop at bytes))) first
    ∙ ap (λ (rest : List ℕ). written ++ take at bytes ++ take count rest) (take_rest bytes at)
    ∙ append_assoc written (take at bytes) (take count (drop at bytes))
    ∙ ap (λ (xs : List ℕ). written ++ xs) (sym (take-add at count bytes))

-- what was taken when a read moved nothing is all that was left
pub Consumes-all : (before between : Option (List ℕ)) (taken : List ℕ) (count : ℕ) → Consumes before between taken
    → IfSome between (λ bytes. (count ≡ 0) ↔ (bytes ≡ [])) → count ≡ 0 → IfSome before (λ all. taken ≡ all)
Consumes-all None between taken count consumed ends is = tt
Consumes-all (Some bytes) None taken count consumed ends is = absurd consumed
Consumes-all (Some bytes) (Some rest) taken count consumed ends is =
    sym (consumed ∙ ap (λ (xs : List ℕ). taken ++ xs) (ends.0 is) ∙ append-nil taken)

-- a reader moves nothing exactly where nothing is left
pub ends_there : (start before after : Option (List ℕ)) (count : ℕ) (buffer : List ℕ) → Keeps start before → Consumes before after (take count buffer)
    → (count ≡ 0 → 0 < length buffer → IsAtEnd after) → count ≤ length buffer → 0 < length buffer
    → IfSome start (λ bytes. (count ≡ 0) ↔ (bytes ≡ []))
ends_there None before after count buffer kept consumed end within some = tt
ends_there (Some bytes) None after count buffer kept consumed end within some = absurd kept
ends_there (Some bytes) (Some same) None count buffer kept consumed end within some = absurd consumed
ends_there (Some bytes) (Some same) (Some rest) count buffer kept consumed end within some = (to, from)
  where
    is : bytes ≡ take count buffer ++ rest
    is = sym kept ∙ consumed

    to : count ≡ 0 → bytes ≡ []
    to zero = is ∙ ap (λ (k : ℕ). take k buffer ++ rest) zero ∙ end zero some

    from : bytes ≡ [] → count ≡ 0
    from empty =
        let long : length (take count buffer ++ rest) ≡ 0 = ap length (sym is ∙ empty) in
        grind (arith, common_steps)
