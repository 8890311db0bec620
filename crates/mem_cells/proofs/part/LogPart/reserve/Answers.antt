use Rattle.std.proofs.Common.{◌≡◌, ◌+◌, ◌-◌, ◌≤◌, ℕ, List, refl, ap, sym, subst, ◌∙◌, arith}
use Rattle.std.proofs.lemmas.Bool.Decides.{nat_tests}
use Rattle.std.specs.HashMap.{spare}
use Rattle.std.specs.Option.{unwrap_or}
use Rattle.mem_cells.specs.Log.{Log}
use Rattle.mem_cells.specs.Part.{CoreLog, log_of, room_kept, IsSamePart}
use Rattle.mem_cells.specs.Named.{CountsNamings, naming_count}
use Rattle.mem_cells.proofs.Counts.{same_entries, equal_count, roomier_count, reserved_count, same_after, same_changes, room_asked, room_stays}
use Rattle.mem_cells.proofs.part.LogPart.reserve.Goals as goal

pub invariant_of-self-in_err-reserve_at : goal.invariant_of-self-in_err-reserve_at
invariant_of-self-in_err-reserve_at c =
    let mid = c.make_place.new.logs.entries in
    let after = c.reserve_at.new.logs.entries in
    let room = c.in_ok-reserve.ensures.ok in
    let enough : c.self.inside.rooms ≤ spare c.reserve.new.self = omega arith in
    subst (λ (logs : List (ℕ × Log)). CountsNamings logs (naming_count c.reserve.new.self) (spare c.reserve.new.self) c.self.inside.kept c.self.inside.rooms)
    (sym (same_entries mid after c.args.dir.0 _ c.in_err-reserve_at.ensures.err))
    (roomier_count mid _ _ _ _ c.self.inside.kept c.self.inside.rooms
    (λ node. ap (λ found. unwrap_or found 0) (c.in_ok-reserve.ensures.entries.2 node)) enough
    (equal_count c.self.inside.logs.entries mid _ _ _ _ c.in_ok-make_place.ensures.same c.self.invariant))

pub returns-in_err-reserve_at-clause-never_lowers : goal.returns-in_err-reserve_at-clause-never_lowers
returns-in_err-reserve_at-clause-never_lowers c =
    λ other.
    let mid = c.make_place.new.logs.entries in
    let after = c.reserve_at.new.logs.entries in
    let there = ap (λ (logs : List (ℕ × Log)). (log_of logs other).room) (same_entries mid after c.args.dir.0 _ c.in_err-reserve_at.ensures.err) in
    let were = ap (λ (log : Log). log.room) (c.in_ok-make_place.ensures.same.each other) in
    let now = ap (λ (part : CoreLog). room_kept part other) c.self.view_is in omega arith

pub returns-in_err-reserve_at-clause-same : goal.returns-in_err-reserve_at-clause-same
returns-in_err-reserve_at-clause-same c =
    let mid = c.make_place.new.logs.entries in
    let after = c.reserve_at.new.logs.entries in
    let there = same_entries mid after c.args.dir.0 _ c.in_err-reserve_at.ensures.err in
    subst (λ (part : CoreLog). IsSamePart part (record { logs = after; entries = c.self.inside.entries })) c.self.view_is
    (record {
      logs = same_after c.self.inside.logs.entries mid after c.in_ok-make_place.ensures.same
          (record {
            changes = λ d. ap (λ (logs : List (ℕ × Log)). (log_of logs d).changes) there;
            marks = λ d. ap (λ (logs : List (ℕ × Log)). (log_of logs d).mark) there;
          });
      entries = refl;
    })

pub invariant_of-self-2 : goal.invariant_of-self-2
invariant_of-self-2 c =
    let mid = c.make_place.new.logs.entries in
    let after = c.reserve_at.new.logs.entries in
    let directory = c.args.dir.0 in
    let room = c.in_ok-reserve.ensures.ok in
    let there : c.room_for-room.result ≡ (log_of mid directory).room =
    c.room_for-room.ensures ∙ sym (ap (λ (part : CoreLog). room_kept part directory) c.self.view_is)
    ∙ sym (ap (λ (log : Log). log.room) (c.in_ok-make_place.ensures.same.each directory)) in
    let more : c.saturating_sub-more.result ≡ c.args.count - (log_of mid directory).room =
    c.saturating_sub-more.ensures ∙ ap (λ n. c.args.count - n) there in
    let enough : c.self.inside.rooms ≤ spare c.reserve.new.self = omega arith in
    let few = c.self.invariant.few in
    let fits = c.if-more-self.false in
    subst (λ n. CountsNamings after (naming_count c.reserve.new.self) (spare c.reserve.new.self) c.self.inside.kept (c.self.inside.rooms + n)) (sym more)
    (reserved_count mid after _ _ c.self.inside.kept c.self.inside.rooms directory c.args.count (log_of mid directory) c.in_ok-reserve_at.ensures.ok
    (subst (λ n. c.self.inside.rooms + n ≤ spare c.reserve.new.self) more room) (grind (arith, nat_tests))
    (roomier_count mid _ _ _ _ c.self.inside.kept c.self.inside.rooms
    (λ node. ap (λ found. unwrap_or found 0) (c.in_ok-reserve.ensures.entries.2 node)) enough
    (equal_count c.self.inside.logs.entries mid _ _ _ _ c.in_ok-make_place.ensures.same c.self.invariant)))

pub returns-clause-room : goal.returns-clause-room
returns-clause-room c =
    room_asked c.make_place.new.logs.entries c.reserve_at.new.logs.entries c.args.dir.0 c.args.count c.in_ok-reserve_at.ensures.ok

pub returns-clause-never_lowers : goal.returns-clause-never_lowers
returns-clause-never_lowers c =
    λ other.
    let mid = c.make_place.new.logs.entries in
    let after = c.reserve_at.new.logs.entries in
    let stays = room_stays mid after c.args.dir.0 c.args.count c.in_ok-reserve_at.ensures.ok other in
    let were = ap (λ (log : Log). log.room) (c.in_ok-make_place.ensures.same.each other) in
    let now = ap (λ (part : CoreLog). room_kept part other) c.self.view_is in omega arith

pub returns-clause-same : goal.returns-clause-same
returns-clause-same c =
    let mid = c.make_place.new.logs.entries in
    let after = c.reserve_at.new.logs.entries in
    subst (λ (part : CoreLog). IsSamePart part (record { logs = after; entries = c.self.inside.entries })) c.self.view_is
    (record {
      logs = same_after c.self.inside.logs.entries mid after c.in_ok-make_place.ensures.same
          (same_changes mid after c.args.dir.0 c.args.count c.in_ok-reserve_at.ensures.ok);
      entries = refl;
    })
