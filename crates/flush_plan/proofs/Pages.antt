-- The pages of the first blocks.
use Rattle.std.proofs.Common.{◌≡◌, ℕ, ◌+◌, ◌-◌, ◌≤◌, ◌<◌, Bool, true, false, cond, inl, inr, List, [], ◌∷◌, ◌++◌, length, map, filter, take, drop, min, refl, sym, ap, ◌∙◌, subst, arith}
use Rattle.std.specs.Prelude.{replicate, All}
use Rattle.std.specs.List.{range_with_len}
use Rattle.std.proofs.Math.Seq.{take-append-add}
use Rattle.std.proofs.lemmas.List.{take-append-le, take_all, take-replicate, drop-replicate, map-append, append-nil}
use Rattle.std.proofs.lemmas.Bool.{cases_lt}
use Rattle.std.proofs.lemmas.List.Elements.{filter-append, All-append, All-cons, All-nil}
use Rattle.block_map.proofs.Places.{range_more}
use Rattle.mem_files.specs.File.{File}
use Rattle.disk_change.specs.Pages.{page_block}
use Rattle.disk_change.specs.declared.pages.Page.{Page}
use Rattle.flush_plan.specs.Touched.{page_of, is_marked_from}

-- of one number more there is one thing more, where it passes the test
pub one_more : {X : Type 0} (test : ℕ → Bool) (f : ℕ → X) (n : ℕ)
    → map f (filter test (range_with_len 0 (n + 1))) ≡ map f (filter test (range_with_len 0 n)) ++ cond (test n) (f n ∷ []) []
one_more test f n =
    ap (λ l. map f (filter test l)) (range_more 0 n ∙ ap (λ m. range_with_len 0 n ++ m ∷ []) (alone n))
    ∙ ap (map f) (filter-append test (range_with_len 0 n) (n ∷ []))
    ∙ map-append f (filter test (range_with_len 0 n)) (filter test (n ∷ []))
    ∙ ap (λ l. map f (filter test (range_with_len 0 n)) ++ l) (last (test n))
  where
    alone : (m : ℕ) → 0 + m ≡ m
    alone m = omega arith

    last : (b : Bool) → map f (cond b (n ∷ []) []) ≡ cond b (f n ∷ []) []
    last true = refl
    last false = refl

-- one block more, of which there is a page where it was touched
module _ (cut : ℕ) (file : File) (block : ℕ) (touched : Bool) (is : touched ≡ is_marked_from cut file block) (pages new : List Page)
    (grows : new ≡ pages ++ cond touched (page_of file.bytes block ∷ []) []) where
  pub pages_more : pages ≡ map (page_of file.bytes) (filter (is_marked_from cut file) (range_with_len 0 block))
      → new ≡ map (page_of file.bytes) (filter (is_marked_from cut file) (range_with_len 0 (block + 1)))
  pages_more are =
      grows ∙ ap (λ l. l ++ cond touched (page_of file.bytes block ∷ []) []) are
      ∙ ap (λ b. map (page_of file.bytes) (filter (is_marked_from cut file) (range_with_len 0 block)) ++ cond b (page_of file.bytes block ∷ []) []) is
      ∙ sym (one_more (is_marked_from cut file) (page_of file.bytes) block)

  pub below_more : All (λ page. page_block page < block) pages → All (λ page. page_block page < block + 1) new
  below_more below =
      subst (All (λ page. page_block page < block + 1)) (sym grows)
      (All-append (λ page. page_block page < block + 1) pages (cond touched (page_of file.bytes block ∷ []) [])
      (λ k d within. let low = below k d within in omega arith) (last touched))
    where
      one : All (λ page. page_block page < block + 1) (page_of file.bytes block ∷ [])
      one = All-cons (λ page. page_block page < block + 1) (page_of file.bytes block) [] (omega arith) (All-nil (λ page. page_block page < block + 1))

      last : (b : Bool) → All (λ page. page_block page < block + 1) (cond b (page_of file.bytes block ∷ []) [])
      last true = one
      last false = All-nil (λ page. page_block page < block + 1)
