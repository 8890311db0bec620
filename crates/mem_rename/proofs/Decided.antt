-- What a rename decides is what it answers and does.
use Rattle.std.proofs.Common.{◌≡◌, ℕ, Bool, true, false, cond, not, ◌&&◌, Option, Some, None, refl, ap, ap₂, ◌∙◌, nat_eq}
use Rattle.std.specs.Option.{option_or}
use Rattle.std.specs.Prelude.{option_map}
use Rattle.tree_laws.specs.declared.reply.Code.{Code}
use Rattle.tree_laws.specs.declared.reply.Code.TheVariants.{Invalid}
use Rattle.tree_laws.specs.declared.reply.Reply.TheVariants as reply
use Rattle.tree_laws.specs.Effect.{Moves as MovesEffect}
use Rattle.tree_laws.specs.Logged.{numbered_node}
use Rattle.tree_laws.specs.Verdict.{answered, done, or_else, names_child}
use Rattle.mem_rename.specs.declared.sides.Move.{Move}
use Rattle.mem_rename.specs.declared.looking.Look.{Look}
use Rattle.mem_rename.specs.declared.looking.Reads.{Reads}
use Rattle.mem_rename.specs.declared.looking.Decision.{Decision}
use Rattle.mem_rename.specs.declared.looking.Decision.TheVariants.{Answers, Moves}
use Rattle.mem_rename.specs.Sights.{Sight, fault_seen, child_seen, there_seen, place_fault_by, move_fault_by, move_by, rename_by}
use Rattle.mem_rename.specs.Decisions.{look_seen, reads_of, same_child, place_fault_of, move_fault_of, refused_or, child_decision, decision_by, verdict_of, is_at_or_below}

module _ (seen : Sight) (move : Move) where
  abbrev look : Look
  look = look_seen seen move

  abbrev reads : Reads
  reads = reads_of seen move

  same_told : (child : ℕ) (there : Option ℕ) → same_child (Some (numbered_node child)) (option_map numbered_node there) ≡ names_child there child
  same_told child None = refl
  same_told child (Some there) = refl

  place_told : (there : Option ℕ) → there_seen seen move ≡ there → place_fault_of look reads ≡ place_fault_by seen move there
  place_told None is = ap (λ (o : Option ℕ). place_fault_of (record look { there = option_map numbered_node o }) reads) is
  place_told (Some there) is = ap (λ (o : Option ℕ). place_fault_of (record look { there = option_map numbered_node o }) reads) is

  fault_told : (child : ℕ) → child_seen seen move ≡ Some child → move_fault_of look reads move ≡ move_fault_by seen move child
  fault_told child is =
      ap₂ (λ b f. cond b (Some Invalid) f) (all (not (nat_eq move.directory.0 move.to_directory.0)) look.child_is_directory (ap (is_at_or_below seen move) is))
      (place_told (there_seen seen move) refl)
    where
      all : (a b : Bool) {c d : Bool} → c ≡ d → (a && b && c) ≡ ((a && b) && d)
      all true b e = ap (λ x. b && x) e
      all false b e = refl

  refused_told : (fault : Option Code) (decision : Decision) → verdict_of move (refused_or fault decision) ≡ or_else fault (verdict_of move decision)
  refused_told None decision = refl
  refused_told (Some code) decision = refl

  child_told : (child : Option ℕ) → child_seen seen move ≡ child
      → verdict_of move (child_decision look reads move (option_map numbered_node child)) ≡ move_by seen move child
  child_told None is = refl
  child_told (Some child) is =
      ap (λ (c : Option ℕ). verdict_of move
      (cond (same_child (option_map numbered_node c) look.there) (Answers Rattle.mem_calls.specs.declared.short.Short.TheVariants.Done)
      (refused_or (move_fault_of look reads move) (Moves (numbered_node child))))) is
      ∙ by_same (same_child (Some (numbered_node child)) look.there) (same_told child (there_seen seen move))
    where
      by_same : (same : Bool) → same ≡ names_child (there_seen seen move) child
          → verdict_of move (cond same (Answers Rattle.mem_calls.specs.declared.short.Short.TheVariants.Done)
          (refused_or (move_fault_of look reads move) (Moves (numbered_node child)))) ≡ move_by seen move (Some child)
      by_same true e = ap (λ b. cond b (answered reply.Ok)
          (or_else (move_fault_by seen move child) (done (MovesEffect move.directory.0 move.name move.to_directory.0 move.to_name child)))) e
      by_same false e =
          refused_told (move_fault_of look reads move) (Moves (numbered_node child))
          ∙ (ap (λ f. or_else f (done (MovesEffect move.directory.0 move.name move.to_directory.0 move.to_name child))) (fault_told child is)
          ∙ ap (λ b. cond b (answered reply.Ok)
          (or_else (move_fault_by seen move child) (done (MovesEffect move.directory.0 move.name move.to_directory.0 move.to_name child)))) e)

  -- What is decided by what the values tell is what they say.
  pub decided : verdict_of move (decision_by look reads move) ≡ rename_by seen move
  decided =
      refused_told (option_or (fault_seen move.directory.0 seen.old seen.old_links) (fault_seen move.to_directory.0 seen.new seen.new_links))
      (child_decision look reads move look.child)
      ∙ ap (or_else (option_or (fault_seen move.directory.0 seen.old seen.old_links) (fault_seen move.to_directory.0 seen.new seen.new_links)))
      (child_told (child_seen seen move) refl)
