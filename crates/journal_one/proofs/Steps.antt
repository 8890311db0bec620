-- What each step of a commit makes of what is known of the slot.
use Rattle.std.proofs.Common.{◌≡◌, ℕ, zero, suc, ◌+◌, ◌<◌, true, false, length, refl, sym, ◌∙◌, subst, arith, inl, inr}
use Rattle.std.proofs.lemmas.Bool.{cases_lt}
use Rattle.sfs_dev.specs.Disk.{View}
use Rattle.journal_one.specs.Calls.{IsCalm}
use Rattle.journal_one.specs.Job.{Place, Job, Piece, fill_count, fill_piece, body_piece, table_piece, gate_piece, without_fresh, IsJob}
use Rattle.journal_one.specs.Known.{Reads, EachLeft, IsWrittenIn, IsShutIn, IsOpenIn, AreWritten, AreOnDisk, AreFilled, IsBodyOnDisk, IsFilling, IsFilled, IsSealed, IsOpened, IsDurable, AreAllPlaced, IsCopied, IsClosing, IsEnded, IsBetween}
use Rattle.journal_one.proofs.Apart.{AreApart, apart_from_gate, body_from_gate, table_from_gate, table_from_body, tables_apart, fills_apart, AreApart-swap}
use Rattle.journal_one.proofs.Places.{body_as, fresh_whole}
use Rattle.journal_one.proofs.Kept.{Touches, Rests, leaves_kept, reads_kept, leaves_rest, reads_rest, leaves_from_reads, stands_kept, gate_stays, gate_put}

-- no device call was made
pub Rests-refl : (disk : View) → Rests disk disk
Rests-refl disk = record { content = refl; left = λ content told image left. left }

-- pieces on the disk stay there through a write elsewhere, and through a sync
pub on_disk_kept : (n : ℕ) (piece : ℕ → Piece) (written : Piece) (old new : View) → Touches written old new → ((k : ℕ) → k < n → AreApart written (piece k))
    → AreOnDisk n piece old → AreOnDisk n piece new
on_disk_kept n piece written old new touches apart knows k lt =
    leaves_kept written old new (IsWrittenIn (piece k)) touches (λ was image same stands. stands_kept written (piece k) was image (apart k lt) same stands)
    (knows k lt)

pub written_kept : (n : ℕ) (piece : ℕ → Piece) (written : Piece) (old new : View) → Touches written old new → ((k : ℕ) → k < n → AreApart written (piece k))
    → AreWritten n piece old → AreWritten n piece new
written_kept n piece written old new touches apart knows k lt =
    reads_kept written old new (IsWrittenIn (piece k)) touches (λ was image same stands. stands_kept written (piece k) was image (apart k lt) same stands)
    (knows k lt)

pub on_disk_rest : (n : ℕ) (piece : ℕ → Piece) (old new : View) → Rests old new → AreOnDisk n piece old → AreOnDisk n piece new
on_disk_rest n piece old new rests knows k lt = leaves_rest old new (IsWrittenIn (piece k)) rests (knows k lt)

pub written_rest : (n : ℕ) (piece : ℕ → Piece) (old new : View) → Rests old new → AreWritten n piece old → AreWritten n piece new
written_rest n piece old new rests knows k lt = reads_rest old new (IsWrittenIn (piece k)) rests (knows k lt)

-- and where nothing is pending, what was written is on the disk
pub on_disk_by_sync : (n : ℕ) (piece : ℕ → Piece) (disk : View) → IsCalm disk → AreWritten n piece disk → AreOnDisk n piece disk
on_disk_by_sync n piece disk calm knows k lt = leaves_from_reads disk (IsWrittenIn (piece k)) calm (knows k lt)

-- one piece more was written
written_one : (n : ℕ) (piece : ℕ → Piece) (disk : View) → AreWritten n piece disk → Reads disk (IsWrittenIn (piece n)) → AreWritten (n + 1) piece disk
written_one n piece disk before here k lt =
    elim (cases_lt k n) [
      | inl low ↦ before k low
      | inr high ↦ subst (λ (m : ℕ). Reads disk (IsWrittenIn (piece m))) (let e : n ≡ k = omega arith in e) here
    ]

-- the gate stays closed, and open, through a write elsewhere
shut_kept : (place : Place) (written : Piece) (old new : View) → Touches written old new → AreApart written (gate_piece place 0) → EachLeft old (IsShutIn place)
    → EachLeft new (IsShutIn place)
shut_kept place written old new touches apart =
    leaves_kept written old new (IsShutIn place) touches (λ was image same shut. gate_stays place written 0 was image apart same ∙ shut)

open_kept : (place : Place) (written : Piece) (old new : View) → Touches written old new → AreApart written (gate_piece place 0) → EachLeft old (IsOpenIn place)
    → EachLeft new (IsOpenIn place)
open_kept place written old new touches apart =
    leaves_kept written old new (IsOpenIn place) touches (λ was image same open_then. gate_stays place written 0 was image apart same ∙ open_then)

module _ (job : Job) (is : IsJob job) where
  -- a piece that is written
  module _ (done : ℕ) (old new : View) (touches : Touches (fill_piece job done) old new) (within : done < fill_count job) (knows : IsFilling job done old) where
    apart : (k : ℕ) → k < done → AreApart (fill_piece job done) (fill_piece job k)
    apart k lt = fills_apart job is done k (λ same. let e = same in omega arith) knows.own within (omega arith) (fresh_whole job is done) (fresh_whole job is k)

    pub filling_kept : IsFilling job done new
    filling_kept = record {
      own = knows.own;
      shut = shut_kept job.place (fill_piece job done) old new touches (apart_from_gate job is done 0) knows.shut;
      written = written_kept done (fill_piece job) (fill_piece job done) old new touches apart knows.written;
    }

    pub filling_more : Reads new (IsWrittenIn (fill_piece job done)) → IsFilling job (done + 1) new
    filling_more stands = record {
      own = knows.own;
      shut = filling_kept.shut;
      written = written_one done (fill_piece job) new filling_kept.written stands;
    }

  pub filling_rests : (done : ℕ) (old new : View) → Rests old new → IsFilling job done old → IsFilling job done new
  filling_rests done old new rests knows = record {
    own = knows.own;
    shut = leaves_rest old new (IsShutIn job.place) rests knows.shut;
    written = written_rest done (fill_piece job) old new rests knows.written;
  }

  pub sealed_then : (old new : View) → Rests old new → IsCalm new → IsFilled job old → IsSealed job new
  sealed_then old new rests calm knows =
      let then = filling_rests (fill_count job) old new rests knows in
      record { shut = then.shut; filled = on_disk_by_sync (fill_count job) (fill_piece job) new calm then.written }

  -- a write at the gate
  filled_kept : (byte : ℕ) (old new : View) → Touches (gate_piece job.place byte) old new → AreFilled job old → AreFilled job new
  filled_kept byte old new touches =
      on_disk_kept (fill_count job) (fill_piece job) (gate_piece job.place byte) old new touches
      (λ k lt. AreApart-swap (fill_piece job k) (gate_piece job.place byte) (apart_from_gate job is k byte))

  body_kept : (byte : ℕ) (old new : View) → Touches (gate_piece job.place byte) old new → IsBodyOnDisk job old → IsBodyOnDisk job new
  body_kept byte old new touches =
      on_disk_kept 3 (body_piece job) (gate_piece job.place byte) old new touches
      (λ k lt. AreApart-swap (body_piece job k) (gate_piece job.place byte) (body_from_gate job is k byte))

  -- with all that fills the slot the body is on the disk
  body_filled : (disk : View) → AreFilled job disk → IsBodyOnDisk job disk
  body_filled disk filled k lt = subst (λ (p : Piece). EachLeft disk (IsWrittenIn p)) (body_as job is k) (filled (length job.fresh + k) (omega arith))

  copied_kept : (byte : ℕ) (old new : View) → Touches (gate_piece job.place byte) old new → AreOnDisk (length job.entries) (table_piece job) old
      → AreOnDisk (length job.entries) (table_piece job) new
  copied_kept byte old new touches =
      on_disk_kept (length job.entries) (table_piece job) (gate_piece job.place byte) old new touches
      (λ k lt. AreApart-swap (table_piece job k) (gate_piece job.place byte) (table_from_gate job is k byte))

  pub opening_doubted : (old new : View) → Touches (gate_piece job.place 1) old new → IsSealed job old → AreFilled job new
  opening_doubted old new touches knows = filled_kept 1 old new touches knows.filled

  pub opened_then : (old new : View) → Touches (gate_piece job.place 1) old new → Reads new (IsWrittenIn (gate_piece job.place 1)) → IsSealed job old
      → IsOpened job new
  opened_then old new touches stands knows = record {
    opened = λ content told. gate_put job.place 1 content (stands content told);
    filled = filled_kept 1 old new touches knows.filled;
  }

  pub opened_rests : (old new : View) → Rests old new → IsOpened job old → IsOpened job new
  opened_rests old new rests knows = record {
    opened = reads_rest old new (IsOpenIn job.place) rests knows.opened;
    filled = on_disk_rest (fill_count job) (fill_piece job) old new rests knows.filled;
  }

  pub durable_then : (old new : View) → Rests old new → IsCalm new → IsOpened job old → IsDurable job 0 new
  durable_then old new rests calm knows =
      let then = opened_rests old new rests knows in
      record { opened = leaves_from_reads new (IsOpenIn job.place) calm then.opened; body = body_filled new then.filled; placed = λ k lt. absurd (omega arith) }

  -- a record that is placed
  module _ (done : ℕ) (old new : View) (touches : Touches (table_piece job done) old new) (within : done < length job.entries)
      (knows : IsDurable job done old) where
    pub durable_kept : IsDurable job done new
    durable_kept = record {
      opened = open_kept job.place (table_piece job done) old new touches (table_from_gate job is done 0) knows.opened;
      body = on_disk_kept 3 (body_piece job) (table_piece job done) old new touches (λ k lt. table_from_body job is done k within) knows.body;
      placed =
          written_kept done (table_piece job) (table_piece job done) old new touches
          (λ k lt. tables_apart job is done k (λ same. let e = same in omega arith) within (omega arith)) knows.placed;
    }

    pub durable_more : Reads new (IsWrittenIn (table_piece job done)) → IsDurable job (done + 1) new
    durable_more stands = record {
      opened = durable_kept.opened;
      body = durable_kept.body;
      placed = written_one done (table_piece job) new durable_kept.placed stands;
    }

  pub durable_rests : (done : ℕ) (old new : View) → Rests old new → IsDurable job done old → IsDurable job done new
  durable_rests done old new rests knows = record {
    opened = leaves_rest old new (IsOpenIn job.place) rests knows.opened;
    body = on_disk_rest 3 (body_piece job) old new rests knows.body;
    placed = written_rest done (table_piece job) old new rests knows.placed;
  }

  pub copied_then : (old new : View) → Rests old new → IsCalm new → AreAllPlaced job old → IsCopied job new
  copied_then old new rests calm knows =
      let then = durable_rests (length job.entries) old new rests knows in
      record { opened = then.opened; body = then.body; copied = on_disk_by_sync (length job.entries) (table_piece job) new calm then.placed }

  pub closing_then : (old new : View) → Touches (gate_piece job.place 0) old new → Reads new (IsWrittenIn (gate_piece job.place 0)) → IsCopied job old
      → IsClosing job new
  closing_then old new touches stands knows = record {
    shut = λ content told. gate_put job.place 0 content (stands content told);
    body = body_kept 0 old new touches knows.body;
    copied = copied_kept 0 old new touches knows.copied;
  }

  -- between the slot and the table: where the table has the records, and where the gate is open
  between_copied : (disk : View) → IsBodyOnDisk job disk → AreOnDisk (length job.entries) (table_piece job) disk → IsBetween job disk
  between_copied disk body copied = record { body = body; copied = λ k lt content told image left shut. copied k lt content told image left }

  pub shutting_doubted : (old new : View) → Touches (gate_piece job.place 0) old new → IsCopied job old → IsBetween job new
  shutting_doubted old new touches knows = between_copied new (body_kept 0 old new touches knows.body) (copied_kept 0 old new touches knows.copied)

  pub placed_between : (old new : View) → Rests old new → AreAllPlaced job old → IsBetween job new
  placed_between old new rests knows =
      let then = durable_rests (length job.entries) old new rests knows in
      record {
        body = then.body;
        copied = λ k lt content told image left shut.
            let never : true ≡ false = sym (then.opened content told image left) ∙ shut in
            absurd (cc);
      }

  pub closing_between : (old new : View) → Rests old new → IsClosing job old → IsBetween job new
  closing_between old new rests knows =
      between_copied new (on_disk_rest 3 (body_piece job) old new rests knows.body)
      (on_disk_rest (length job.entries) (table_piece job) old new rests knows.copied)

  pub closing_rests : (old new : View) → Rests old new → IsClosing job old → IsClosing job new
  closing_rests old new rests knows = record {
    shut = reads_rest old new (IsShutIn job.place) rests knows.shut;
    body = on_disk_rest 3 (body_piece job) old new rests knows.body;
    copied = on_disk_rest (length job.entries) (table_piece job) old new rests knows.copied;
  }

  pub closed_then : (old new : View) → Rests old new → IsCalm new → IsClosing job old → IsEnded job new
  closed_then old new rests calm knows = record {
    idle = leaves_from_reads new (IsShutIn job.place) calm (reads_rest old new (IsShutIn job.place) rests knows.shut);
    copied = on_disk_rest (length job.entries) (table_piece job) old new rests knows.copied;
  }

-- nothing is said of fresh blocks once a commit is durable
shed_body : (job : Job) (disk : View) → IsBodyOnDisk job disk → IsBodyOnDisk (without_fresh job) disk
shed_body job disk knows zero lt = knows 0 lt
shed_body job disk knows (suc zero) lt = knows 1 lt
shed_body job disk knows (suc (suc k)) lt = knows (suc (suc k)) lt

pub durable_shed : (job : Job) (done : ℕ) (disk : View) → IsDurable job done disk → IsDurable (without_fresh job) done disk
durable_shed job done disk knows = record { opened = knows.opened; body = shed_body job disk knows.body; placed = knows.placed }
