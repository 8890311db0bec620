use Rattle.std.proofs.Common.{◌≡◌, ◌<◌, ◌≤◌, ◌+◌, ℕ, List, length, true, false, refl, sym, ap, ◌∙◌, subst, arith}
use Rattle.std.specs.Option.{option_map_or}
use Rattle.mem_calls.specs.Held.{is_standing}
use Rattle.mem_calls.proofs.Shown.{bucket_shows, file_shows}
use Rattle.mem_calls.proofs.Faults.{same_count, beyond_dead, alive, directory, fallen, linked_alive, linked_file, links_counted}
use Rattle.mem_calls.proofs.Statuses.{small_buckets, rows_are, directories_are, stat_dead, stat_directory, stat_file}
use Rattle.mem_calls.proofs.status.stat_in.Goals as goal

pub returns-then-node-nodes : goal.returns-then-node-nodes
returns-then-node-nodes c = λ tree meets.
    let same = same_count c.args.core.now tree meets in
    let counted = c.requires.counted in
    let beyond = c.if-node-nodes.true in
    stat_dead tree c.args.core.now.view.core c.args.node (beyond_dead tree meets.sound c.args.node.0 (omega (arith, same, counted, beyond)))

pub directory_counts-links-requires-clause-small : goal.directory_counts-links-requires-clause-small
directory_counts-links-requires-clause-small c = small_buckets c.args.core.now c.args.nodes c.requires.counted c.args.node c.if-node-nodes.false c.requires.met

pub returns-then-is_standing : goal.returns-then-is_standing
returns-then-is_standing c = λ tree meets.
    let within = c.if-node-nodes.false in
    let stands = sym c.if-is_standing.ensures in
    let shows = bucket_shows c.args.core.now c.args.nodes c.requires.counted tree meets c.args.node 0 c.bucket_in.result.now within
    (omega arith) c.bucket_in.ensures in
    let holds = c.requires.held.buckets within (ap (λ o. option_map_or (is_standing c.args.node) o false) c.bucket_in.ensures ∙ stands) in
    stat_directory tree c.args.core.now.view.core c.args.node c.directory_counts-links.result.0 c.directory_counts-links.result.1
    (alive tree meets.sound c.args.node 0 c.bucket_in.result.now shows stands)
    (directory tree meets.sound c.args.node 0 c.bucket_in.result.now shows stands)
    (c.directory_counts-links.ensures.links
    ∙ ap (λ n. 2 + n) (directories_are c.args.core.now c.args.nodes c.requires.counted c.args.node within tree meets c.args.core.now.view.core holds))
    (c.directory_counts-links.ensures.size
    ∙ rows_are c.args.core.now c.args.nodes c.requires.counted c.args.node within tree meets c.args.core.now.view.core holds)

pub returns-then-file-eq0 : goal.returns-then-file-eq0
returns-then-file-eq0 c = λ tree meets.
    let within = c.if-node-nodes.false in
    let shows = bucket_shows c.args.core.now c.args.nodes c.requires.counted tree meets c.args.node 0 c.bucket_in.result.now within
    (omega arith) c.bucket_in.ensures in
    let file = file_shows c.args.core.now c.args.nodes c.requires.counted tree meets c.args.node c.file_in-file.result.now within c.file_in-file.ensures in
    stat_dead tree c.args.core.now.view.core c.args.node
    (fallen tree meets.sound c.args.node 0 c.bucket_in.result.now shows (sym c.if-is_standing.ensures) (sym file.0 ∙ c.if-file-eq0.true))

pub returns : goal.returns
returns c = λ tree meets.
    let within = c.if-node-nodes.false in
    let file = file_shows c.args.core.now c.args.nodes c.requires.counted tree meets c.args.node c.file_in-file.result.now within c.file_in-file.ensures in
    let links = file.0 in
    let some : 0 < Rattle.mem_values.specs.Stands.file_links tree c.args.node.0 = positive c.file_in-file.result.now.links _ file.0 c.if-file-eq0.false in
    stat_file tree c.args.core.now.view.core c.args.node c.file_in-file.result.now.links c.size.result (linked_alive tree meets.sound c.args.node.0 some)
    (linked_file tree meets.sound c.args.node.0 some)
    (links ∙ links_counted tree meets.sound c.args.node.0 (linked_file tree meets.sound c.args.node.0 some))
    (c.size.ensures ∙ ap (λ (l : List ℕ). length l) file.1)
  where
    positive : (a b : ℕ) → a ≡ b → (a ≡ 0 → ⊥) → 0 < b
    positive Rattle.std.proofs.Common.zero b same not = absurd (not refl)
    positive (Rattle.std.proofs.Common.suc a) b same not = omega (arith, same)
