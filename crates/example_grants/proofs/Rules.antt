-- The labels of the two cores may be told, by the rules of the journal slots.
use Rattle.std.proofs.Common.{◌<◌, ◌≤◌, ◌++◌, ◌≡◌, ℕ, ap, refl, suc, arith, length}
use Rattle.std.proofs.lemmas.List.Elements.{All-from_recursion}
use Rattle.sfs_image.specs.ImageOf.{FreshBlock}
use Rattle.sfs_image.specs.Journal.{Entry}
use Rattle.sfs_image.specs.Super.{IsLayout}
use Rattle.sfs_image.proofs.BytesLaws.{length-zeros}
use Rattle.sfs_image.proofs.InodeLaws.{length-inode_bytes}
use Rattle.journal_one.specs.Job.{IsJob, LiesInData}
use Rattle.slot_laws.specs.Labels.{past_from, first_past, BoxPast}
use Rattle.slot_laws.specs.Nodes.{no_last}
use Rattle.slot_laws.specs.Rules.{MayFrom}
use Rattle.slot_laws.proofs.WorkedBegins.{one_unmoved, four_marked}
use Rattle.slot_laws.proofs.Comes.{may_both}
use Rattle.example_grants.specs.Fsyncs.{Writer, OWN, OTHER}
use Rattle.example_grants.specs.Told.{job_by, OWN_JOB, OTHER_JOB, RESERVE, BEGIN, FILL, OPEN, LAND, FILES_TOLD}
use Rattle.example_grants.specs.Image.{FIFTEEN_BLOCKS, file_inode}
use Rattle.example_grants.proofs.Image.{any_file}

-- the layout is one of fifteen blocks
pub layout_fits : IsLayout 15 FIFTEEN_BLOCKS
layout_fits = record {
  ranges = record {
    blocks = omega arith;
    inodes_low = omega arith;
    inodes_high = omega arith;
    cores_low = omega arith;
    cores_high = omega arith;
    slots_low = omega arith;
    slots_high = omega arith;
  };
  room = omega arith;
  within = omega arith;
}

-- both jobs can be written
a_job : (w : Writer) (slot stamp : ℕ) → slot < 2 → stamp < 4 → w.file < 16 → 11 ≤ w.block → w.block < 15 → IsJob (job_by w slot stamp)
a_job w slot stamp within few file low high = record {
  place = record { fits = layout_fits; within = omega (arith, within) };
  stamp = omega (arith, few);
  some = omega arith;
  are = record {
    ascend = λ k less. absurd (omega (arith, less));
    below = All-from_recursion (λ (entry : Entry). entry.inode < 16) (job_by w slot stamp).entries (file, tt);
  };
  long = All-from_recursion (λ (entry : Entry). length entry.bytes ≡ 512) (job_by w slot stamp).entries
      (length-inode_bytes (file_inode 1 w.block) (any_file 1 w.block (omega arith) (omega (arith, high))), tt);
  whole = All-from_recursion (λ (one : FreshBlock). length one.bytes ≡ 4096) (job_by w slot stamp).fresh (ap suc (length-zeros 4095), tt);
  in_data = All-from_recursion (LiesInData FIFTEEN_BLOCKS) (job_by w slot stamp).fresh (record { low = low; high = high }, tt);
}

own_job : IsJob OWN_JOB
own_job = a_job OWN 0 2 (omega arith) (omega arith) (omega arith) (omega arith) (omega arith)

other_job : IsJob OTHER_JOB
other_job = a_job OTHER 1 1 (omega arith) (omega arith) (omega arith) (omega arith) (omega arith)

-- what is told before each part of the history
abbrev pub reserved_past : BoxPast
reserved_past = past_from FIFTEEN_BLOCKS RESERVE (first_past 0)

abbrev pub begun_past : BoxPast
begun_past = past_from FIFTEEN_BLOCKS BEGIN reserved_past

abbrev pub filled_past : BoxPast
filled_past = past_from FIFTEEN_BLOCKS FILL begun_past

abbrev pub opened_past : BoxPast
opened_past = past_from FIFTEEN_BLOCKS OPEN filled_past

pub may_reserve : MayFrom FIFTEEN_BLOCKS 0 RESERVE (first_past 0)
may_reserve = (
  (refl, tt),
  (
    (refl, record { calm = refl; next = refl; none = refl; rests = refl; unmoved = one_unmoved (λ _. no_last) 1 0 refl }),
    (
      (refl, record { own = refl; no_open = λ e. cc; no_durable = λ e. cc; learned = refl; now = record { rises = omega arith; counts = refl } }),
      (
        (refl, tt),
        (
          (refl, tt),
          (
            (refl, record { calm = refl; next = refl; none = refl; rests = refl; unmoved = one_unmoved _ 2 0 refl }),
            (
              (
                refl,
                record { own = refl; no_open = λ e. cc; no_durable = λ e. cc; learned = refl; now = record { rises = omega arith; counts = refl } },
              ),
              ((refl, tt), tt),
            ),
          ),
        ),
      ),
    ),
  ),
)

pub may_begin : MayFrom FIFTEEN_BLOCKS 0 BEGIN reserved_past
may_begin = (
  (refl, tt),
  (
    (refl, record { calm = refl; own = refl; within = omega arith; place = refl; idle = refl; number = refl; stamp = refl; is = other_job }),
    (
      (refl, tt),
      (
        (refl, tt),
        (
          (refl, record { calm = refl; own = refl; within = omega arith; place = refl; idle = refl; number = refl; stamp = refl; is = own_job }),
          ((refl, tt), tt),
        ),
      ),
    ),
  ),
)

pub may_fill : MayFrom FIFTEEN_BLOCKS 0 FILL begun_past
may_fill = (
  (refl, tt),
  (
    (refl, record { calm = refl; own = refl; has = record { work = _; there = refl; aloft = refl; gate_is = refl }; within = omega arith }),
    (
      (refl, record { calm = refl; own = refl; has = record { work = _; there = refl; aloft = refl; gate_is = refl }; within = omega arith }),
      (
        (refl, record { calm = refl; own = refl; has = record { work = _; there = refl; aloft = refl; gate_is = refl }; within = omega arith }),
        (
          (refl, record { calm = refl; own = refl; has = record { work = _; there = refl; aloft = refl; gate_is = refl }; within = omega arith }),
          (
            (refl, tt),
            (
              (refl, tt),
              (
                (
                  refl,
                  record { calm = refl; own = refl; has = record { work = _; there = refl; aloft = refl; gate_is = refl }; within = omega arith },
                ),
                (
                  (
                    refl,
                    record { calm = refl; own = refl; has = record { work = _; there = refl; aloft = refl; gate_is = refl }; within = omega arith },
                  ),
                  (
                    (
                      refl,
                      record { calm = refl; own = refl; has = record { work = _; there = refl; aloft = refl; gate_is = refl }; within = omega arith },
                    ),
                    (
                      (
                        refl,
                        record {
                          calm = refl;
                          own = refl;
                          has = record { work = _; there = refl; aloft = refl; gate_is = refl };
                          within = omega arith;
                        },
                      ),
                      ((refl, refl), ((refl, tt), tt)),
                    ),
                  ),
                ),
              ),
            ),
          ),
        ),
      ),
    ),
  ),
)

pub may_open : MayFrom FIFTEEN_BLOCKS 0 OPEN filled_past
may_open = (
  (refl, tt),
  (
    (
      refl,
      record {
        calm = refl;
        own = refl;
        has = record { work = _; there = refl; aloft = refl; gate_is = refl };
        filled = λ n low. four_marked n low;
        cut_is = record { did_is = refl; core_is = refl; commit_is = refl; flush_is = refl };
        opened_is = record { did_is = refl; core_is = refl; commit_is = refl; flush_is = refl };
        cut_now = record { rises = omega arith; counts = refl };
        opened_now = (refl, refl);
      },
    ),
    (
      (refl, tt),
      (
        (refl, tt),
        (
          (
            refl,
            record {
              calm = refl;
              own = refl;
              has = record { work = _; there = refl; aloft = refl; gate_is = refl };
              filled = λ n low. four_marked n low;
              cut_is = record { did_is = refl; core_is = refl; commit_is = refl; flush_is = refl };
              opened_is = record { did_is = refl; core_is = refl; commit_is = refl; flush_is = refl };
              cut_now = record { rises = omega arith; counts = refl };
              opened_now = (refl, refl);
            },
          ),
          ((refl, tt), tt),
        ),
      ),
    ),
  ),
)

pub may_land : MayFrom FIFTEEN_BLOCKS 0 LAND opened_past
may_land = (
  (refl, tt),
  (
    (refl, refl),
    (
      (
        refl,
        record {
          calm = refl;
          has = record { work = _; there = refl; aloft = refl; gate_is = refl };
          is = record { did_is = refl; core_is = refl; commit_is = refl; flush_is = refl };
          moment = refl;
          now = record { rises = omega arith; counts = refl };
        },
      ),
      (
        (refl, record { own = refl; waits = refl }),
        (
          (refl, tt),
          (
            (refl, tt),
            (
              (refl, refl),
              (
                (
                  refl,
                  record {
                    calm = refl;
                    has = record { work = _; there = refl; aloft = refl; gate_is = refl };
                    is = record { did_is = refl; core_is = refl; commit_is = refl; flush_is = refl };
                    moment = refl;
                    now = record { rises = omega arith; counts = refl };
                  },
                ),
                ((refl, record { own = refl; waits = refl }), ((refl, tt), tt)),
              ),
            ),
          ),
        ),
      ),
    ),
  ),
)

pub labels_may : MayFrom FIFTEEN_BLOCKS 0 FILES_TOLD.log (first_past 0)
labels_may =
    may_both FIFTEEN_BLOCKS 0 RESERVE (BEGIN ++ (FILL ++ (OPEN ++ LAND))) (first_past 0) may_reserve
    (may_both FIFTEEN_BLOCKS 0 BEGIN (FILL ++ (OPEN ++ LAND)) reserved_past may_begin
    (may_both FIFTEEN_BLOCKS 0 FILL (OPEN ++ LAND) begun_past may_fill (may_both FIFTEEN_BLOCKS 0 OPEN LAND filled_past may_open may_land)))
