-- A volume that stands goes on standing over each longer history.
use Rattle.std.proofs.Common.{◌≡◌, List, [], ◌∷◌, ◌++◌, length, sym, subst}
use Rattle.std.proofs.Math.Seq.{take-append_seam}
use Rattle.std.proofs.lemmas.List.{append-nil, append_assoc}
use Rattle.tree_laws.specs.declared.history.Entry.{Entry}
use Rattle.tree_laws.specs.History.{IsLegal}
use Rattle.tree_laws.specs.Tree.{TreeState}
use Rattle.cut_laws.proofs.Prefix.{legal_take}
use Rattle.raise_laws.specs.Next.{IsMountedHistory}
use Rattle.flush_laws.specs.Volume.{Volume}
use Rattle.volume_laws.specs.Volume.{IsVolumeStanding}
use Rattle.volume_laws.proofs.Longer.{longer_histories_stay_between}

-- the first entries of a legal history are legal
front_legal : (first : TreeState) (front back : List Entry) → IsLegal first (front ++ back) → IsLegal first front
front_legal first front back legal =
    subst (IsLegal first) (take-append_seam front back) (legal_take first (front ++ back) (length front) legal)

-- a volume with a history
abbrev pub with_history : Volume → List Entry → Volume
with_history volume history = record volume { history = history }

-- each volume that stands does so with more entries behind its history
longer_stands : (volume : Volume) (front back : List Entry) → IsVolumeStanding (with_history volume front) → IsLegal volume.first (front ++ back)
    → IsVolumeStanding (with_history volume (front ++ back))
longer_stands volume front [] stands legal =
    subst (λ (history : List Entry). IsVolumeStanding (with_history volume history)) (sym (append-nil front)) stands
longer_stands volume front (entry ∷ back) stands legal =
    let same : (front ++ entry ∷ []) ++ back ≡ front ++ entry ∷ back = append_assoc front (entry ∷ []) back in
    let legal_again = subst (IsLegal volume.first) (sym same) legal in
    let was = stands.between.history_is in
    let mounted : IsMountedHistory volume.first (front ++ entry ∷ []) = record {
      sound = was.sound;
      limits = was.limits;
      alive = was.alive;
      legal = front_legal volume.first (front ++ entry ∷ []) back legal_again;
    } in
    subst (λ (history : List Entry). IsVolumeStanding (with_history volume history)) same
    (longer_stands volume (front ++ entry ∷ []) back (longer_histories_stay_between (with_history volume front) entry stands mounted) legal_again)

-- so one without a history stands with each legal one
pub stands_with : (volume : Volume) (history : List Entry) → volume.history ≡ [] → IsVolumeStanding volume → IsLegal volume.first history
    → IsVolumeStanding (with_history volume history)
stands_with volume history none stands legal =
    longer_stands volume [] history
    (subst (λ (past : List Entry). IsVolumeStanding (with_history volume past)) none stands) legal
