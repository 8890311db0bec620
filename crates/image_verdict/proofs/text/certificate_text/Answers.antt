use Rattle.std.proofs.Common.{◌++◌, ◌+◌, List, ℕ, flat_map, length, string_bytes, vec_items, ap, ◌∙◌, arith}
use Rattle.std.proofs.lemmas.List.{take_all}
use Rattle.image_check.specs.declared.certificate.Holder.{Holder}
use Rattle.image_verdict.specs.Texts.{counts_text, place_text}
use Rattle.image_verdict.proofs.text.certificate_text.Goals as goal

pub returns : goal.returns
returns c =
    let places = c.as_slice-places.result.now in
    ap vec_items c.into_bytes.ensures.value ∙ c.loop-place.invariant
    ∙ ap (λ (xs : List Holder). string_bytes c.write_counts.new.text ++ flat_map place_text xs) (take_all c.loop-place.place-index places (omega arith))
    ∙ ap (λ (xs : List ℕ). xs ++ flat_map place_text places)
    (c.in_ok-write_counts.ensures
    ∙ ap (λ (xs : List ℕ). xs ++ counts_text (length places + 1) c.args.cert.now.files) c.new-text.ensures.bytes)
    ∙ ap (λ (xs : List Holder). counts_text (length xs + 1) c.args.cert.now.files ++ flat_map place_text xs) c.as_slice-places.ensures.items
