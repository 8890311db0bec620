use Rattle.std.proofs.Common.{◌≡◌, ◌++◌, flat_map, string_bytes, take}
use Rattle.image_verdict.specs.Texts.{place_text}
use Rattle.image_verdict.proofs.text.certificate_text.Given as goal

abbrev pub invariant-loop-place : goal.invariant-loop-place
invariant-loop-place l = string_bytes l.text ≡ string_bytes l.initial.text ++ flat_map place_text (take l.place-index l.places)
