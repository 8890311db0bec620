use Rattle.std.proofs.Common.{◌≡◌, true, false, sym, ap, ◌∙◌}
use Rattle.std.specs.Option.{option_map_or}
use Rattle.mem_calls.specs.Held.{is_standing}
use Rattle.mem_calls.proofs.HeldKinds.{bucket_and_file, still_bucket}
use Rattle.mem_calls.proofs.holding.hold_directory.Goals as goal

pub returns-then-not-is_standing-clause-directory : goal.returns-then-not-is_standing-clause-directory
returns-then-not-is_standing-clause-directory g c =
    bucket_and_file c.args.nodes c.hold_more.new.core c.hold_more-then-not-is_standing.new.core c.args.node c.args.number c.bucket_in.result.now
    c.bucket_in.ensures c.hold_more-then-not-is_standing.ensures.gains

pub returns-then-not-is_standing-clause-bucket : goal.returns-then-not-is_standing-clause-bucket
returns-then-not-is_standing-clause-bucket g c = λ within. record {
  met = c.hold_more-then-not-is_standing.ensures.gains.met;
  top = λ stands.
      let b = still_bucket c.args.nodes c.hold_more.new.core c.hold_more-then-not-is_standing.new.core c.args.node c.args.number c.bucket_in.result.now
      c.hold_more-then-not-is_standing.ensures.gains.still c.bucket_in.ensures in
      let never : true ≡ false = sym stands ∙ (ap (λ o. option_map_or (is_standing c.args.node) o false) b ∙ sym c.if-not-is_standing.ensures) in
      absurd (cc (never));
}
