-- The words of the command line.
use Rattle.std.specs.Prelude.{ℕ, ◌≤◌, ◌==◌, Bool, List, [], ◌∷◌, codes, bytes_eq, nat_le, Option, Some, None, Result, Ok, Err, if◌then◌else◌, false}
use Rattle.std.specs.List.{list_any}
use Rattle.script.specs.Words.{number_up_to}
use Rattle.sfs_image.specs.declared.limits.TheConstants.{MOST_SLOTS}
use Rattle.sfs_image.specs.Super.{Layout}
use Rattle.words.specs.declared.command.Command.{Command}
use Rattle.words.specs.declared.command.Command.TheVariants.{Mkfs, Show, Run, Load, Check, Verify}

-- whether a word begins with `-`
abbrev pub begins_with_dash : List ℕ → Bool
begins_with_dash [] = false
begins_with_dash (byte ∷ bytes) = byte == 45

-- how many new nodes a run may make, or a history that is checked, where the words don't say
abbrev pub NODES : ℕ
NODES = 4096

-- how many they are at most
abbrev pub MOST_NODES : ℕ
MOST_NODES = 65536

-- how many blocks, inodes and cores an image has at least and at most
abbrev pub LEAST_BLOCKS : ℕ
LEAST_BLOCKS = 8

abbrev pub MOST_BLOCKS : ℕ
MOST_BLOCKS = 262144

abbrev pub LEAST_INODES : ℕ
LEAST_INODES = 16

abbrev pub MOST_INODES : ℕ
MOST_INODES = 16384

abbrev pub MOST_CORES : ℕ
MOST_CORES = 16

-- a seed at most, and how many items a worker has at most in a made script
abbrev pub MOST_SEED : ℕ
MOST_SEED = 4294967295

abbrev pub MOST_ITEMS : ℕ
MOST_ITEMS = 4000

-- how many journal slots each core has where the words don't say
abbrev pub SLOTS : ℕ
SLOTS = 1

-- a number that is none is bad at its place, and so is one that is too small
abbrev pub from_least : ℕ → ℕ → Option ℕ → Result ℕ ℕ
from_least place least None = Err place
from_least place least (Some number) = if nat_le least number then Ok number else Err place

-- the number that a word spells, where it is in its range; else the word is bad at this place
abbrev pub number_asked : ℕ → ℕ → ℕ → List ℕ → Result ℕ ℕ
number_asked place least most word = from_least place least (number_up_to most word)

-- `run`, with this number of new nodes
abbrev pub run_of : Result ℕ ℕ → Result Command ℕ
run_of (Ok nodes) = Ok (Run nodes)
run_of (Err place) = Err place

-- `run` or `run NODES`, by the words behind its first
abbrev pub run_asked : List (List ℕ) → Result Command ℕ
run_asked [] = Ok (Run NODES)
run_asked (nodes ∷ []) = run_of (number_asked 1 1 MOST_NODES nodes)
run_asked _ = Err 0

-- `show`
abbrev pub show_asked : List (List ℕ) → Result Command ℕ
show_asked [] = Ok Show
show_asked _ = Err 0

-- `mkfs`, with these numbers; the first that is bad is named
abbrev pub mkfs_of : Result ℕ ℕ → Result ℕ ℕ → Result ℕ ℕ → Result ℕ ℕ → Result Command ℕ
mkfs_of (Err place) inodes cores slots = Err place
mkfs_of (Ok blocks) (Err place) cores slots = Err place
mkfs_of (Ok blocks) (Ok inodes) (Err place) slots = Err place
mkfs_of (Ok blocks) (Ok inodes) (Ok cores) (Err place) = Err place
mkfs_of (Ok blocks) (Ok inodes) (Ok cores) (Ok slots) = Ok (Mkfs blocks inodes cores slots)

-- the number of each core's journal slots, which may be missing
abbrev pub slots_asked : Option (List ℕ) → Result ℕ ℕ
slots_asked None = Ok SLOTS
slots_asked (Some word) = number_asked 4 1 MOST_SLOTS word

-- an image of so many blocks, inodes, cores and slots, by the words for them
abbrev pub image_asked : List ℕ → List ℕ → List ℕ → Option (List ℕ) → Result Command ℕ
image_asked blocks inodes cores slots =
    mkfs_of (number_asked 1 LEAST_BLOCKS MOST_BLOCKS blocks) (number_asked 2 LEAST_INODES MOST_INODES inodes) (number_asked 3 1 MOST_CORES cores)
    (slots_asked slots)

-- `mkfs BLOCKS INODES CORES` or `mkfs BLOCKS INODES CORES SLOTS`
abbrev pub mkfs_asked : List (List ℕ) → Result Command ℕ
mkfs_asked (blocks ∷ inodes ∷ cores ∷ []) = image_asked blocks inodes cores None
mkfs_asked (blocks ∷ inodes ∷ cores ∷ slots ∷ []) = image_asked blocks inodes cores (Some slots)
mkfs_asked _ = Err 0

-- `load`, with these numbers; the first that is bad is named
abbrev pub load_of : Result ℕ ℕ → Result ℕ ℕ → Result ℕ ℕ → Result Command ℕ
load_of (Err place) count workers = Err place
load_of (Ok seed) (Err place) workers = Err place
load_of (Ok seed) (Ok count) (Err place) = Err place
load_of (Ok seed) (Ok count) (Ok workers) = Ok (Load seed count workers)

-- a made script of a seed, so many items a worker and so many workers, by the words for them
abbrev pub script_asked : List ℕ → List ℕ → List ℕ → Result Command ℕ
script_asked seed count workers =
    load_of (number_asked 1 0 MOST_SEED seed) (number_asked 2 1 MOST_ITEMS count) (number_asked 3 1 MOST_CORES workers)

-- `load SEED COUNT WORKERS`
abbrev pub load_asked : List (List ℕ) → Result Command ℕ
load_asked (seed ∷ count ∷ workers ∷ []) = script_asked seed count workers
load_asked _ = Err 0

-- `check`, with this number of new nodes
abbrev pub check_of : Result ℕ ℕ → Result Command ℕ
check_of (Ok nodes) = Ok (Check nodes)
check_of (Err place) = Err place

-- `check` or `check NODES`, by the words behind its first
abbrev pub check_asked : List (List ℕ) → Result Command ℕ
check_asked [] = Ok (Check NODES)
check_asked (nodes ∷ []) = check_of (number_asked 1 1 MOST_NODES nodes)
check_asked _ = Err 0

-- `verify`
abbrev pub verify_asked : List (List ℕ) → Result Command ℕ
verify_asked [] = Ok Verify
verify_asked _ = Err 0

-- the command of a first word, by the words behind it; no other first word has one
abbrev pub command_of : List ℕ → List (List ℕ) → Result Command ℕ
command_of word values =
    if bytes_eq word (codes "mkfs") then mkfs_asked values else
    if bytes_eq word (codes "show") then show_asked values else
    if bytes_eq word (codes "run") then run_asked values else
    if bytes_eq word (codes "load") then load_asked values else
    if bytes_eq word (codes "check") then check_asked values else
    if bytes_eq word (codes "verify") then verify_asked values else
    Err 0

-- the command of words that don't begin with `-`
abbrev pub command_in : List (List ℕ) → Result Command ℕ
command_in [] = Err 0
command_in (word ∷ values) = command_of word values

-- What the words ask for, or the place at which they are bad: 0 where one begins with `-` or they are no command.
abbrev pub command_asked : List (List ℕ) → Result Command ℕ
command_asked words = if list_any begins_with_dash words then Err 0 else command_in words

-- a number is from one bound to the other
pub record IsFromTo (least most number : ℕ) : Type 0 where
  pub low : least ≤ number
  pub high : number ≤ most

-- a command's numbers are in their ranges
abbrev pub IsInRange : Command → Type 0
IsInRange (Mkfs blocks inodes cores slots) =
    IsFromTo LEAST_BLOCKS MOST_BLOCKS blocks × IsFromTo LEAST_INODES MOST_INODES inodes × IsFromTo 1 MOST_CORES cores × IsFromTo 1 MOST_SLOTS slots
IsInRange Show = Unit {0}
IsInRange (Run nodes) = nodes ≤ MOST_NODES
IsInRange (Check nodes) = nodes ≤ MOST_NODES
IsInRange Verify = Unit {0}
IsInRange (Load seed count workers) = (count ≤ MOST_ITEMS) × IsFromTo 1 MOST_CORES workers

-- the layout that the numbers of `mkfs` ask for
abbrev pub layout_asked : ℕ → ℕ → ℕ → ℕ → Layout
layout_asked blocks inodes cores slots = record { blocks = blocks; inodes = inodes; cores = cores; slots = slots }
