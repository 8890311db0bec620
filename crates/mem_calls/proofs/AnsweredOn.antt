-- A call that is answered behind holds is answered from before them.
use Rattle.std.proofs.Common.{◌≡◌, ◌∷◌, ◌++◌, ◌∙◌, [], length, ap}
use Rattle.tree_laws.specs.declared.call.Call.{Call}
use Rattle.tree_laws.specs.declared.reply.Reply.{Reply}
use Rattle.tree_laws.specs.History.{tree_after}
use Rattle.tree_laws.specs.Tree.{TreeState}
use Rattle.tree_laws.specs.Verdict.{verdict}
use Rattle.stamp_table.specs.declared.event.Event.{Event}
use Rattle.stamp_table.specs.declared.event.Event.TheVariants.{Called}
use Rattle.stamp_table.specs.declared.view.View.{View}
use Rattle.stamp_table.specs.Events.{calls_in}
use Rattle.stamp_table.specs.Table.{entry_numbered}
use Rattle.stamp_table.proofs.Keeps.{begins_on}
use Rattle.mem_values.specs.Start.{FileHand, FileState}
use Rattle.mem_values.specs.declared.fact.Fact.{Fact}
use Rattle.mem_calls.specs.Outcome.{IsAnswered}
use Rattle.mem_calls.specs.Working.{WorksOn}

pub answered_on : (t : FileState) (c : Call) (reply : Reply) (before mid after : FileHand) → WorksOn before mid → IsAnswered t c reply mid after
    → IsAnswered t c reply before after
answered_on t c reply before mid after on answered =
    let log = answered.stands.0 in
    let entry = answered.stands.1 in
    let behind = answered.stands.2 in
    let core_is = ap (λ (v : View TreeState (Event Fact)). v.core) on.view in
    record {
      between = answered.between;
      same = record {
        table = answered.same.table ∙ ap (λ (h : FileHand). h.table) on.frame;
        cores = answered.same.cores ∙ ap (λ (h : FileHand). h.cores) on.frame;
        leads = answered.same.leads ∙ ap (λ (h : FileHand). h.leads) on.frame;
        number = answered.same.number ∙ core_is;
      };
      room = answered.room ∙ on.room;
      spare = answered.spare ∙ ap (λ (h : FileHand). h.spare) on.frame;
      stands = (
        log,
        entry,
        record {
          entry_is = behind.entry_is ∙ ap (λ core. entry_numbered core c reply (length (calls_in log))) core_is;
          began = begins_on before.view.seen mid.view.seen log on.seen behind.began;
          seen = behind.seen;
          due = behind.due ∙ ap (λ core. (verdict (tree_after t.first (calls_in log)) core c).reply) core_is;
        },
        answered.stands.3 ∙ ap (λ (h : FileHand). h.entries ++ entry ∷ []) on.frame,
        answered.stands.4 ∙ ap (λ (v : View TreeState (Event Fact)). v.mine ++ Called entry ∷ []) on.view,
      );
    }
