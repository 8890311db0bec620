-- What the list of calls of a disk in memory says after a write.
use Rattle.std.proofs.Common.{◌≡◌, ℕ, ◌+◌, ◌-◌, ◌<◌, ◌≤◌, List, [], ◌∷◌, ◌++◌, length, take, drop, reverse, sym, ◌∙◌, ap, subst, arith, length-append, length-drop}
use Rattle.std.proofs.lemmas.List.{length-take-le, take_at, drop_at, reverse-append}
use Rattle.sfs_dev.specs.Ranges.{part, put, SameOutside}
use Rattle.sfs_dev.specs.RangeLaws.{SameOutside-put, put-part}
use Rattle.sfs_dev.specs.Log.{last_bytes, all_but_last, left_after, left_at, acts_of, newest_moment}
use Rattle.sfs_dev.specs.LogLaws.{left_now, left_before}
use Rattle.sfs_dev.specs.declared.call.Act.TheVariants.{Write}
use Rattle.sfs_dev.specs.declared.call.Call.{Call}

-- Undoing the write gives back what was there, and the list of replaced bytes.
pub record Undoes (at n : ℕ) (content replaced new_content new_replaced : List ℕ) : Type 0 where
  pub content_back : put at (last_bytes n new_replaced) new_content ≡ content
  pub replaced_back : all_but_last n new_replaced ≡ replaced

undoes : (at : ℕ) (from content replaced new_content new_replaced : List ℕ) → at + length from ≤ length content
    → new_replaced ≡ replaced ++ part at (length from) content → new_content ≡ put at from content
    → Undoes at (length from) content replaced new_content new_replaced
undoes at from content replaced new_content new_replaced within kept written =
    let n = length from in
    let there : length (part at n content) ≡ n = length-take-le n _ (omega (arith, length-drop at content)) in
    let front : length new_replaced - n ≡ length replaced = omega (arith, ap length kept, length-append replaced (part at n content), there) in
    let front_sym : length replaced ≡ length new_replaced - n = sym front in
    let last : last_bytes n new_replaced ≡ part at n content =
    ap (λ (l : List ℕ). drop (length new_replaced - n) l) kept ∙ drop_at replaced (part at n content) (length new_replaced - n) front_sym in
    record {
      content_back = ap (λ (l : List ℕ). put at l new_content) last ∙ ap (λ (l : List ℕ). put at (part at n content) l) written
          ∙ put-part at n content (put at from content) within (SameOutside-put at from content within);
      replaced_back = ap (λ (l : List ℕ). take (length new_replaced - n) l) kept ∙ take_at replaced (part at n content) (length new_replaced - n) front_sym;
    }

module _ (calls new_calls : List Call) (at moment now : ℕ) (from content replaced new_content new_replaced : List ℕ)
    (within : at + length from ≤ length content) (dated : newest_moment (reverse calls) ≤ moment) (later : moment ≤ now)
    (listed : new_calls ≡ calls ++ record { moment = now; act = Write at (length from) } ∷ []) (kept : new_replaced ≡ replaced ++ part at (length from) content)
    (written : new_content ≡ put at from content) where
  abbrev call : Call
  call = record { moment = now; act = Write at (length from) }

  newest_first : reverse new_calls ≡ call ∷ reverse calls
  newest_first = ap reverse listed ∙ reverse-append calls (call ∷ [])

  back : Undoes at (length from) content replaced new_content new_replaced
  back = undoes at from content replaced new_content new_replaced within kept written

  -- a crash before it leaves what it left before
  pub write_past : (k : ℕ) (image : List ℕ) → k < now
      → left_at k (reverse new_calls) new_content new_replaced image ≡ left_at k (reverse calls) content replaced image
  write_past k image lt =
      ap (λ (l : List Call). left_at k l new_content new_replaced image) newest_first
      ∙ left_before k call (reverse calls) new_content new_replaced image lt
      ∙ ap (λ (l : List ℕ). left_at k (reverse calls) l (all_but_last (length from) new_replaced) image) back.content_back
      ∙ ap (λ (l : List ℕ). left_at k (reverse calls) content l image) back.replaced_back

  -- what a crash before it left, by the calls' acts
  acts_before : (image : List ℕ)
      → left_at moment (reverse calls) content replaced image
      ≡ left_after (acts_of (reverse calls)) (put at (last_bytes (length from) new_replaced) new_content) (all_but_last (length from) new_replaced) image
  acts_before image =
      left_now moment (reverse calls) content replaced image dated
      ∙ ap (λ (l : List ℕ). left_after (acts_of (reverse calls)) l replaced image) (sym back.content_back)
      ∙ ap (λ (l : List ℕ). left_after (acts_of (reverse calls)) (put at (last_bytes (length from) new_replaced) new_content) l image) (sym back.replaced_back)

  acts_after : (image : List ℕ)
      → left_at now (reverse new_calls) new_content new_replaced image ≡ left_after (acts_of (call ∷ reverse calls)) new_content new_replaced image
  acts_after image =
      ap (λ (l : List Call). left_at now l new_content new_replaced image) newest_first
      ∙ left_now now (call ∷ reverse calls) new_content new_replaced image (omega arith)

  -- a crash after it leaves any bytes in its range
  pub write_torn : (image : List ℕ) → left_at now (reverse new_calls) new_content new_replaced image
      → (was : List ℕ) × left_at moment (reverse calls) content replaced was × SameOutside at (length from) was image
  write_torn image left =
      let w = subst (λ (T : Type 0). T) (acts_after image) left in
      (w.0, subst (λ (T : Type 0). T) (sym (acts_before w.0)) w.1, w.2)

  pub write_any : (was image : List ℕ) → left_at moment (reverse calls) content replaced was → SameOutside at (length from) was image
      → left_at now (reverse new_calls) new_content new_replaced image
  write_any was image left same =
      subst (λ (T : Type 0). T) (sym (acts_after image)) (was, subst (λ (T : Type 0). T) (acts_before was) left, same)

-- a call that stands in no list leaves what a crash leaves as it was
pub unmoved : (calls new_calls : List Call) (content replaced new_replaced : List ℕ) (moment now : ℕ) (image : List ℕ) → newest_moment (reverse calls) ≤ moment
    → new_calls ≡ calls → new_replaced ≡ replaced → moment ≤ now
    → left_at now (reverse new_calls) content new_replaced image → left_at moment (reverse calls) content replaced image
unmoved calls new_calls content replaced new_replaced moment now image dated same_calls same_replaced later left =
    let same : left_at now (reverse new_calls) content new_replaced image ≡ left_at moment (reverse calls) content replaced image =
    ap (λ (l : List Call). left_at now (reverse l) content new_replaced image) same_calls
    ∙ ap (λ (l : List ℕ). left_at now (reverse calls) content l image) same_replaced
    ∙ left_now now (reverse calls) content replaced image (omega arith)
    ∙ sym (left_now moment (reverse calls) content replaced image dated) in
    subst (λ (T : Type 0). T) same left

-- a range of a slice, as the code takes it
pub sliced : (at n : ℕ) (front bytes seen : List ℕ) → seen ≡ bytes → front ++ take (at + n - at) (drop at seen) ≡ front ++ part at n bytes
sliced at n front bytes seen same =
    let count : at + n - at ≡ n = omega arith in
    ap (λ (k : ℕ). front ++ take k (drop at seen)) count ∙ ap (λ (l : List ℕ). front ++ part at n l) same
