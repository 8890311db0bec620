-- The end of a mount by what its pens told.
use Rattle.std.proofs.Common.{◌≡◌, ◌∙◌, ℕ, ap, subst, nat_eq}
use Rattle.sfs_base.proofs.BasicNumbers.{same_number}
use Rattle.sfs_dev.specs.Disk.{View}
use Rattle.cut_laws.specs.Rules.{IsOneOf}
use Rattle.cut_laws.proofs.Listed.{to_filter}
use Rattle.merge_laws.specs.Pens.{turns_of_core}
use Rattle.slot_laws.specs.Telling.{turns_in}
use Rattle.slot_laws.specs.Labels.{own_from, nothing_told}
use Rattle.slot_laws.proofs.Lawful.{pens_make_the_record}
use Rattle.slot_laws.proofs.Telling.{pens_tell_turns}
use Rattle.close_laws.specs.Maps.{Numbered, Telling, past_of}
use Rattle.close_laws.specs.PenLabels.{PensTell}
use Rattle.close_laws.proofs.PensFit.{pens_tell_labels, pens_have_turns}
use Rattle.close_laws.specs.Pens.{PensRest, PensAreTurnsOf, PensMountsClose}
use Rattle.close_laws.proofs.Mounts.{table_mounts_close}

-- of a core at rest the record has the turns that its pen told
record_of : (named : Numbered) (told : Telling) (pens : PensTell named told) → PensRest named told pens → (core : ℕ)
    → turns_of_core core (past_of told).turns ≡ turns_in (pens.pens core).turns
record_of named told pens rest core =
    pens_make_the_record told.layout told.before told.log core told.moment pens.along.may (rest.rests core)
    ∙ (ap (λ l. (own_from l nothing_told).told) (pens.pens core).mine_is ∙ pens_tell_turns core (pens.pens core).turns)

pub pens_are_turns_of : PensAreTurnsOf
pens_are_turns_of named told pens rest turn among did =
    rest.brought turn.core.0 turn
    (subst (λ l. IsOneOf l turn) (record_of named told pens rest turn.core.0)
    (to_filter (λ t. nat_eq t.core.0 turn.core.0) (past_of told).turns turn among (same_number turn.core.0)))

pub pens_mounts_close : (disk : View) → PensMountsClose disk
pens_mounts_close disk share start entries named told pens ends agree =
    table_mounts_close disk share start entries named told pens (record {
      labels = record { is = pens_tell_labels named told ends.beside.pens; begins = ends.beside.begins; tell = ends.beside.tell };
      none = ends.none;
      turns = pens_are_turns_of named told ends.beside.pens ends.rest;
      run = ends.run;
      began = ends.began;
      tells = ends.tells;
    }) (record {
      most = agree.most;
      cores = agree.cores;
      own = agree.own;
      is = λ core fsyncs there.
          pens_have_turns named.stamps core told.log fsyncs (ends.beside.pens.pens core) (ends.rest.rests core) (agree.turns core fsyncs there);
      agrees = agree.agrees;
      few = agree.few;
    })
