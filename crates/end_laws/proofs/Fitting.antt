-- Turns at the box that are of what a core made fit what commits bring.
use Rattle.std.proofs.Common.{◌<◌, ◌^◌, ◌-◌, ◌≡◌, ◌∙◌, sym, min, count_by, length, ap, sum_by, arith, List, subst, ℕ, map, is_some}
use Rattle.sfs_image.specs.Super.{Layout}
use Rattle.fmt_journal.specs.declared.tx.TxRecord.{TxRecord}
use Rattle.space_map.specs.declared.grant.Need.{Need}
use Rattle.space_map.specs.Space.{GrantedNumbers}
use Rattle.disk_change.specs.Planned.{enters, blocks_taken, Planned}
use Rattle.disk_change.specs.Records.{records_written}
use Rattle.disk_change.specs.Written.{IsTransactionOf}
use Rattle.commit_laws.specs.CommitOfPlan.{CommitPlan, change_planned}
use Rattle.commit_laws.specs.PartsStand.{part_next}
use Rattle.book_laws.specs.Brings.{Bringing}
use Rattle.note_laws.specs.Run.{TableRun}
use Rattle.slot_laws.specs.declared.label.Seen.{Seen}
use Rattle.slot_laws.specs.Telling.{BoxTurn, turn_reserves, turn_empties, turn_begins, turn_works, turn_refuses, turn_returns, turn_opens, turn_lands, turn_fails, turn_fails_begun}
use Rattle.close_laws.specs.Maps.{Numbered, GrantFits, ReservedAs, IsEmptyAs, bringing_of}
use Rattle.close_laws.specs.PenLabels.{TurnFits, IsJobBrought}
use Rattle.flush_agrees.specs.Made.{FlushMade, GrantsNeed, change_of, SeesConcerned, TurnMade}
use Rattle.end_laws.specs.Fitting.{MadesFit, IsBroughtAs, FreesNothing}

module _ (run : TableRun) (layout : Layout) (named : Numbered) (made : FlushMade) (brought : IsBroughtAs run named made) (grants : GrantsNeed layout made)
    (blocks : layout.blocks < 2 ^ 32 - 1) where
  abbrev one : Bringing
  one = bringing_of named made.number

  abbrev plan : CommitPlan
  plan = one.plan

  -- the plan's change is the one that was planned
  change_same : change_planned plan ≡ change_of made
  change_same = brought.brings.change

  inodes_same : min (count_by enters (change_of made).seats) (2 ^ 32 - 1) ≡ length made.grant.inodes
  inodes_same = ap (λ (n : Need). n.inodes) grants.need

  blocks_same : min (sum_by blocks_taken (change_of made).seats) (2 ^ 32 - 1) ≡ length made.grant.blocks
  blocks_same = ap (λ (n : Need). n.blocks) grants.need

  all_inodes : count_by enters (change_planned plan).seats ≡ length made.grant.inodes
  all_inodes =
      ap (λ (c : Planned). count_by enters c.seats) change_same ∙ (let same = inodes_same in let few = grants.few in omega (arith, same, few))

  all_blocks : sum_by blocks_taken (change_planned plan).seats ≡ length made.grant.blocks
  all_blocks =
      ap (λ (c : Planned). sum_by blocks_taken c.seats) change_same
      ∙ (let same = blocks_same in let few = grants.blocks in let most = blocks in omega (arith, same, few, most))

  grant_fits : GrantFits one made.grant
  grant_fits = record {
    grant_is = brought.brings.grant;
    needed = λ i. record { inodes = all_inodes i; blocks = all_blocks i };
    words = record {
      inodes =
          let all = ap (λ (c : Planned). count_by enters c.seats) change_same in let few = grants.few in omega (arith, all, few);
      blocks = let all = all_blocks in let few = grants.blocks in let most = blocks in omega (arith, all, few, most);
    };
  }

  reserved_as : (seen : List Seen) → SeesConcerned made.making seen → ReservedAs named made.number seen made.grant
  reserved_as seen sees = record {
    made = record {
      number_is = brought.commit.number_is;
      holds = λ node. brought.commit.holds node ∙ sees.holds node;
      last = λ node last is. brought.commit.last node (sees.holds node ∙ ap is_some is) ∙ sees.last node last is;
    };
    grants = grant_fits;
  }

  fits : FreesNothing made → (turn : BoxTurn) → TurnMade made turn → TurnFits named turn
  fits frees (turn_reserves number seen grant turn) is =
      subst (λ (z : ℕ × GrantedNumbers). ReservedAs named z.0 seen.items z.1) (λ i. (sym is.0 i, sym is.1 i)) (reserved_as seen.items is.2)
  fits frees (turn_empties number seen cut opened durable) is =
      let nothing = is.2 in (
        subst (λ (z : ℕ × GrantedNumbers). ReservedAs named z.0 seen.items z.1) (λ i. (sym is.0 i, nothing.grant_is i)) (reserved_as seen.items is.1),
        subst (λ n. IsEmptyAs (bringing_of named n)) (sym is.0) (record {
          gives =
              brought.brings.parts ∙ ap (map (λ (written : TxRecord). record {
                inode = written.inode;
                part = part_next brought.volume.store brought.volume.parts plan one.grant written.inode;
              }))
              ((λ i. records_written (change_same i) ((brought.brings.grant ∙ nothing.grant_is) i)) ∙ (sym nothing.is.records ∙ nothing.none));
          frees = record {
            tx = nothing.tx;
            is = subst (λ (z : Planned × GrantedNumbers). IsTransactionOf z.0 z.1 nothing.tx)
                (λ i. (sym change_same i, sym (brought.brings.grant ∙ nothing.grant_is) i)) nothing.is;
            inodes = (frees nothing.tx nothing.is nothing.none).0;
            blocks = (frees nothing.tx nothing.is nothing.none).1;
          };
        }),
      )
  fits frees (turn_begins filling number node stamp blocks inodes) is =
      let job = is.1 in
      subst (λ n. IsJobBrought (bringing_of named n) filling.job (record { inodes = inodes.items; blocks = blocks.items })) (sym is.0) (record {
        tx = job.tx;
        is = subst (λ (z : Planned × GrantedNumbers). IsTransactionOf z.0 z.1 job.tx) (λ i. (sym change_same i, sym brought.brings.grant i)) job.is;
        entries = job.entries;
        fresh = job.fresh;
        inodes = job.inodes;
        blocks = job.blocks;
      })
  fits frees (turn_works facts) is = tt
  fits frees (turn_refuses turn) is = tt
  fits frees (turn_returns number turn) is = tt
  fits frees (turn_opens slot done cut opened) is = tt
  fits frees (turn_lands turn) is = tt
  fits frees (turn_fails facts cut fail) is = tt
  fits frees (turn_fails_begun facts fail) is = tt

pub mades_fit : MadesFit
mades_fit run layout named made turn brought grants blocks frees is = fits run layout named made brought grants blocks frees turn is
