-- What is read is such as a call or a reply can have.
use Rattle.std.proofs.Common.{◌≡◌, ℕ, ◌+◌, ◌-◌, ◌<◌, ◌≤◌, ◌^◌, Bool, true, false, cond, ◌&&◌, List, [], codes, length, Option, Some, None, Result, Ok, Err, option_map, is_none, refl, ap, subst, arith, nat_le}
use borrow.Author.Tests.{leb-true}
use Rattle.std.specs.List.{position_or_len}
use Rattle.std.specs.Str.{bytes_eq}
use Rattle.std.specs.Option.{option_zip}
use Rattle.std.proofs.lemmas.List.Elements.{All-take, All-drop}
use Rattle.hex.specs.declared.error.FromHexError.{FromHexError}
use Rattle.hex.specs.Hex.{decode_of, IsBytes}
use Rattle.hex.proofs.HexLemmas.{decode_of-ok}
use Rattle.percent_encoding.specs.Percent.{percent_decode}
use Rattle.percent_encoding.proofs.PercentLemmas.{All-percent_decode}
use Rattle.sfs_base.specs.declared.numbers.NodeId.{NodeId}
use Rattle.sfs_base.specs.Name.{name_fault}
use Rattle.sfs_base.proofs.BasicTruth.{and_second}
use Rattle.sfs_base.proofs.BasicOptions.{some_same}
use Rattle.tree_laws.specs.declared.call.Call.{Call}
use Rattle.tree_laws.specs.declared.call.Call.TheVariants as call
use Rattle.tree_laws.specs.declared.reply.Reply.{Reply}
use Rattle.tree_laws.specs.declared.reply.Reply.TheVariants as reply
use Rattle.tree_laws.specs.History.{IsFsyncReply}
use Rattle.script.specs.Words.{is_number, value_of, number_up_to, decoded, hex_bytes, MOST_DIGITS}
use Rattle.history_check.proofs.Spelled.{each_byte, are_bytes}
use Rattle.history_check.specs.declared.verbs.Verb.{Verb}
use Rattle.history_check.specs.declared.verbs.Verb.TheVariants as verb
use Rattle.history_check.specs.Reading.{is_space, word, behind, short_number, long_number, node_numbered, spelled_node, LONGEST_NAME_TEXT, if_name, spelled_name, spelled_row, spelled_place, spelled_verb, spelled_call, spelled_call_with, spelled_space, spelled_no_space, flush_reply_in, line_call}
use Rattle.history_check.specs.Values.{IsNode, IsName, IsChunk, IsRow, IsFilePlace, IsCall, HasNumbers}

-- the words of bytes are bytes
word_bytes : (bytes : List ℕ) → IsBytes bytes → IsBytes (word bytes)
word_bytes bytes are = are_bytes (word bytes) (All-take (λ byte. byte < 256) (position_or_len is_space bytes) bytes (each_byte bytes are))

behind_bytes : (bytes : List ℕ) → IsBytes bytes → IsBytes (behind bytes)
behind_bytes bytes are = are_bytes (behind bytes) (All-drop (λ byte. byte < 256) (position_or_len is_space bytes + 1) bytes (each_byte bytes are))

-- what is there in one case alone
if_there : {A : Type 0} (t : Bool) (x y : A) → cond t (Some x) None ≡ Some y → (t ≡ true) × (x ≡ y)
if_there true x y e = (refl, some_same e)
if_there false x y e = cc

if_some : {A : Type 0} (t : Bool) (o : Option A) (y : A) → cond t o None ≡ Some y → (t ≡ true) × (o ≡ Some y)
if_some true o y e = (refl, e)
if_some false o y e = cc

-- what two values were made of
zipped : {A B : Type 0} (a : Option A) (b : Option B) (both : A × B) → option_zip a b ≡ Some both → (a ≡ Some both.0) × (b ≡ Some both.1)
zipped (Some x) (Some y) both e = let same = some_same e in (ap (λ p. Some p.0) same, ap (λ p. Some p.1) same)
zipped (Some x) None both e = cc
zipped None b both e = cc

-- what a value was made of
mapped : {A B : Type 0} (f : A → B) (o : Option A) (y : B) → option_map f o ≡ Some y → (x : A) × (o ≡ Some x) × (f x ≡ y)
mapped f (Some x) y e = (x, refl, some_same e)
mapped f None y e = cc

-- a number is within its bound
number_within : (most : ℕ) (w : List ℕ) (n : ℕ) → number_up_to most w ≡ Some n → n ≤ most
number_within most w n e =
    let is = if_there (is_number w && nat_le (value_of w) most) (value_of w) n e in
    subst (λ (v : ℕ). v ≤ most) is.1 (leb-true (value_of w) most (and_second (is_number w) _ is.0))

node_is : (bytes : List ℕ) (node : NodeId) → spelled_node bytes ≡ Some node → IsNode node
node_is bytes node e =
    let is = mapped node_numbered (short_number bytes) node e in
    let le = number_within (2 ^ 32 - 1) (word bytes) is.0 is.1 in
    subst IsNode is.2 (omega (arith, le))

name_is : (w name : List ℕ) → IsBytes w → spelled_name w ≡ Some name → IsName name
name_is w name are e =
    let short = if_some (nat_le (length w) LONGEST_NAME_TEXT) (if_name (percent_decode w)) name e in
    let is = if_there (is_none (name_fault (percent_decode w))) (percent_decode w) name short.1 in
    let bytes = are_bytes (percent_decode w) (All-percent_decode w (each_byte w are)) in
    subst IsName is.1 (record { bytes = bytes; grammar = none_there (name_fault (percent_decode w)) is.0 })
  where
    none_there : {A : Type 0} (o : Option A) → is_none o ≡ true → o ≡ None
    none_there None e = refl
    none_there (Some x) e = cc

row_is : (bytes : List ℕ) (row : NodeId × List ℕ) → IsBytes bytes → spelled_row bytes ≡ Some row → IsRow row.0 row.1
row_is bytes row are e =
    let parts = zipped (spelled_node bytes) (spelled_name (word (behind bytes))) row e in
    record { node = node_is bytes row.0 parts.0; named = name_is (word (behind bytes)) row.1 (word_bytes (behind bytes) (behind_bytes bytes are)) parts.1 }

place_is : (bytes : List ℕ) (place : NodeId × ℕ) → spelled_place bytes ≡ Some place → IsFilePlace place.0 place.1
place_is bytes place e =
    let parts = zipped (spelled_node bytes) (long_number (behind bytes)) place e in
    let le = number_within (2 ^ 64 - 1) (word (behind bytes)) place.1 parts.1 in
    record { node = node_is bytes place.0 parts.0; within = omega (arith, le) }

chunk_is : (w bytes : List ℕ) → hex_bytes w ≡ Some bytes → IsChunk bytes
chunk_is w bytes e =
    elim (bytes_eq w (codes "-")) as (λ t.
    cond t (Some []) (cond (nat_le 2 (length w) && nat_le (length w) MOST_DIGITS) (decoded (decode_of w)) None) ≡ Some bytes
    → IsChunk bytes) [
      | true ↦ λ e. subst IsChunk (some_same e) (record { bytes = λ i. omega arith; short = omega arith })
      | false ↦ λ e.
          let read = if_some (nat_le 2 (length w) && nat_le (length w) MOST_DIGITS) (decoded (decode_of w)) bytes e in
          of_result (decode_of w) refl (leb-true (length w) MOST_DIGITS (and_second (nat_le 2 (length w)) _ read.0)) read.1
    ] e
  where
    of_result : (r : Result (List ℕ) FromHexError) → decode_of w ≡ r → length w ≤ MOST_DIGITS → decoded r ≡ Some bytes → IsChunk bytes
    of_result (Ok xs) is few e =
        let all = decode_of-ok w xs is in
        subst IsChunk (some_same e) (record { bytes = all.3; short = (let twice = all.2 in omega (arith, twice, few)) })
    of_result (Err fault) is few e = cc

-- a call's verb
call_of_is : (v : Verb) (bytes : List ℕ) (c : Call) → IsBytes bytes → spelled_call v bytes ≡ Some c → IsCall c
call_of_is verb.Look bytes c are e =
    let of = mapped (λ row. call.Look row.0 row.1) (spelled_row bytes) c e in subst IsCall of.2 (row_is bytes of.0 are of.1)
call_of_is (verb.Make kind) bytes c are e =
    let of = mapped (λ row. call.Make row.0 row.1 kind) (spelled_row bytes) c e in subst IsCall of.2 (row_is bytes of.0 are of.1)
call_of_is verb.Link bytes c are e =
    let of = mapped (λ both. call.Link both.0 both.1.0 both.1.1) (option_zip (spelled_node bytes) (spelled_row (behind bytes))) c e in
    let both = zipped (spelled_node bytes) (spelled_row (behind bytes)) of.0 of.1 in
    subst IsCall of.2 (node_is bytes of.0.0 both.0, row_is (behind bytes) of.0.1 (behind_bytes bytes are) both.1)
call_of_is verb.Unlink bytes c are e =
    let of = mapped (λ row. call.Unlink row.0 row.1) (spelled_row bytes) c e in subst IsCall of.2 (row_is bytes of.0 are of.1)
call_of_is verb.Rmdir bytes c are e =
    let of = mapped (λ row. call.Rmdir row.0 row.1) (spelled_row bytes) c e in subst IsCall of.2 (row_is bytes of.0 are of.1)
call_of_is verb.Rename bytes c are e =
    let of = mapped (λ both. call.Rename both.0.0 both.0.1 both.1.0 both.1.1) (option_zip (spelled_row bytes) (spelled_row (behind (behind bytes)))) c e in
    let both = zipped (spelled_row bytes) (spelled_row (behind (behind bytes))) of.0 of.1 in
    let are_left = behind_bytes (behind bytes) (behind_bytes bytes are) in
    subst IsCall of.2 (row_is bytes of.0.0 are both.0, row_is (behind (behind bytes)) of.0.1 are_left both.1)
call_of_is verb.Write bytes c are e =
    let of = mapped (λ both. call.Write both.0.0 both.0.1 both.1) (option_zip (spelled_place bytes) (hex_bytes (word (behind (behind bytes))))) c e in
    let both = zipped (spelled_place bytes) (hex_bytes (word (behind (behind bytes)))) of.0 of.1 in
    subst IsCall of.2 (place_is bytes of.0.0 both.0, chunk_is (word (behind (behind bytes))) of.0.1 both.1)
call_of_is verb.Read bytes c are e =
    let of = mapped (λ both. call.Read both.0.0 both.0.1 both.1) (option_zip (spelled_place bytes) (number_up_to 65536 (word (behind (behind bytes))))) c e in
    let both = zipped (spelled_place bytes) (number_up_to 65536 (word (behind (behind bytes)))) of.0 of.1 in
    subst IsCall of.2 (place_is bytes of.0.0 both.0, number_within 65536 (word (behind (behind bytes))) of.0.1 both.1)
call_of_is verb.Trunc bytes c are e =
    let of = mapped (λ place. call.Trunc place.0 place.1) (spelled_place bytes) c e in subst IsCall of.2 (place_is bytes of.0 of.1)
call_of_is verb.Stat bytes c are e = let of = mapped call.Stat (spelled_node bytes) c e in subst IsCall of.2 (node_is bytes of.0 of.1)
call_of_is verb.List bytes c are e = let of = mapped call.List (spelled_node bytes) c e in subst IsCall of.2 (node_is bytes of.0 of.1)
call_of_is verb.Fsync bytes c are e = let of = mapped call.Fsync (spelled_node bytes) c e in subst IsCall of.2 (node_is bytes of.0 of.1)

with_verb_is : (v : Option Verb) (bytes : List ℕ) (c : Call) → IsBytes bytes → spelled_call_with v bytes ≡ Some c → IsCall c
with_verb_is (Some v) bytes c are e = call_of_is v bytes c are e
with_verb_is None bytes c are e = cc

-- The call that is read of a line can be made.
pub line_call_is : (line : List ℕ) (c : Call) → IsBytes line → line_call line ≡ Some c → IsCall c
line_call_is line c are e =
    let left = behind (behind line) in
    with_verb_is (spelled_verb (word left)) (behind left) c (behind_bytes left (behind_bytes (behind line) (behind_bytes line are))) e

-- what is told of a disk that has too little
no_space_is : (bytes : List ℕ) (r : Reply) → spelled_no_space bytes ≡ Some r → IsFsyncReply r × HasNumbers r
no_space_is bytes r e =
    let need = behind (behind bytes) in
    let free = behind (behind (behind (behind bytes))) in
    let both_numbers = option_zip (short_number need) (short_number free) in
    let of = mapped (λ told. reply.NoSpace told.0 told.1.0 told.1.1) (option_zip (spelled_space (word bytes)) both_numbers) r e in
    let both = zipped (spelled_space (word bytes)) (option_zip (short_number need) (short_number free)) of.0 of.1 in
    let numbers = zipped (short_number need) (short_number free) of.0.1 both.1 in
    let needed = number_within (2 ^ 32 - 1) (word need) of.0.1.0 numbers.0 in
    let few = number_within (2 ^ 32 - 1) (word free) of.0.1.1 numbers.1 in
    subst (λ r. IsFsyncReply r × HasNumbers r) of.2 (tt, (omega (arith, needed), omega (arith, few)))

-- a reply that is there by a test, or else this one
by_test : (t : Bool) (o p : Option Reply) (r : Reply) → cond t o p ≡ Some r
    → (o ≡ Some r → IsFsyncReply r × HasNumbers r) → (p ≡ Some r → IsFsyncReply r × HasNumbers r) → IsFsyncReply r × HasNumbers r
by_test true o p r e first second = first e
by_test false o p r e first second = second e

fixed : (is r : Reply) → IsFsyncReply is × HasNumbers is → Some is ≡ Some r → IsFsyncReply r × HasNumbers r
fixed is r has e = subst (λ r. IsFsyncReply r × HasNumbers r) (some_same e) has

-- The reply that is read of an fsync's line is one that an fsync has.
pub flush_reply_is : (bytes : List ℕ) (r : Reply) → flush_reply_in bytes ≡ Some r → IsFsyncReply r × HasNumbers r
flush_reply_is bytes r e =
    by_test (bytes_eq (word bytes) (codes "ok")) _ _ r e (fixed reply.Ok r (tt, tt)) (λ e.
    by_test (bytes_eq (word bytes) (codes "failed")) _ _ r e (fixed reply.DiskFailed r (tt, tt)) (λ e.
    by_test (bytes_eq (word bytes) (codes "nospace")) _ _ r e (no_space_is (behind bytes) r) (λ e.
    by_test (bytes_eq (word bytes) (codes "stopped")) _ _ r e (stopped (behind bytes)) (λ e.
    by_test (bytes_eq (word bytes) (codes "nomemory")) _ _ r e (fixed reply.NoMemory r (tt, tt)) (λ e. cc)))))
  where
    stopped : (bytes : List ℕ) → option_map reply.Stopped (long_number bytes) ≡ Some r → IsFsyncReply r × HasNumbers r
    stopped bytes e =
        let of = mapped reply.Stopped (long_number bytes) r e in
        let le = number_within (2 ^ 64 - 1) (word bytes) of.0 of.1 in
        subst (λ r. IsFsyncReply r × HasNumbers r) of.2 (tt, omega (arith, le))
