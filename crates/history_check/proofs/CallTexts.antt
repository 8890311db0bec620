-- What is written of a call is read as it.
use Rattle.std.proofs.Common.{◌≡◌, ℕ, ◌-◌, ◌<◌, ◌≤◌, ◌^◌, List, [], ◌∷◌, ◌++◌, codes, Some, option_map, refl, ap, ◌∙◌, arith, append_assoc}
use Rattle.std.specs.Fmt.{decimal}
use Rattle.std.specs.Option.{option_zip}
use Rattle.sfs_base.specs.declared.numbers.NodeId.{NodeId}
use Rattle.sfs_base.specs.declared.numbers.Kind.TheVariants.{File, Directory}
use Rattle.tree_laws.specs.declared.call.Call.{Call}
use Rattle.tree_laws.specs.declared.call.Call.TheVariants as call
use Rattle.script.specs.Texts.{name_text, number_text, row_text, bytes_text, call_text}
use Rattle.script.specs.Words.{number_up_to, hex_bytes}
use Rattle.history_check.specs.Reading.{word, behind, short_number, long_number, node_numbered, spelled_node, spelled_name, spelled_row, spelled_place, spelled_verb, spelled_call, spelled_call_with, spelled_call_in}
use Rattle.history_check.specs.declared.verbs.Verb.TheVariants as verb
use Rattle.history_check.specs.Values.{IsNode, IsRow, IsFilePlace, IsChunk, IsCall}
use Rattle.history_check.proofs.FirstWords.{IsSolid, word_first, behind_first}
use Rattle.history_check.proofs.Solid.{decimal_solid, name_solid, bytes_solid}
use Rattle.history_check.proofs.Spelled.{number_again, name_again, chunk_again}

-- four lists, and five
pub three_more : (first second third rest : List ℕ) → ((first ++ second) ++ third) ++ rest ≡ first ++ (second ++ (third ++ rest))
three_more first second third rest = append_assoc (first ++ second) third rest ∙ append_assoc first second (third ++ rest)

pub four_more : (first second third fourth rest : List ℕ) → (((first ++ second) ++ third) ++ fourth) ++ rest ≡ first ++ (second ++ (third ++ (fourth ++ rest)))
four_more first second third fourth rest = append_assoc ((first ++ second) ++ third) fourth rest ∙ three_more first second third (fourth ++ rest)

-- a row before more
row_more : (d : ℕ) (name rest : List ℕ) → row_text d name ++ rest ≡ 32 ∷ (decimal d ++ 32 ∷ (name_text name ++ rest))
row_more d name rest = ap (λ later. 32 ∷ later) (three_more (decimal d) (32 ∷ []) (name_text name) rest)

-- numbers, nodes, rows and places that come first
pub short_again : (n : ℕ) (rest : List ℕ) → n < 2 ^ 32 → short_number (decimal n ++ 32 ∷ rest) ≡ Some n
short_again n rest small =
    ap (number_up_to (2 ^ 32 - 1)) (word_first (decimal n) rest (decimal_solid n)) ∙ number_again (2 ^ 32 - 1) n (omega arith) (omega arith)

pub long_again : (n : ℕ) (rest : List ℕ) → n < 2 ^ 64 → long_number (decimal n ++ 32 ∷ rest) ≡ Some n
long_again n rest small =
    ap (number_up_to (2 ^ 64 - 1)) (word_first (decimal n) rest (decimal_solid n)) ∙ number_again (2 ^ 64 - 1) n (omega arith) (omega arith)

pub node_again : (node : NodeId) (rest : List ℕ) → IsNode node → spelled_node (decimal node.0 ++ 32 ∷ rest) ≡ Some node
node_again node rest is = ap (option_map node_numbered) (short_again node.0 rest is)

row_again : (d : NodeId) (name rest : List ℕ) → IsRow d name → spelled_row (decimal d.0 ++ 32 ∷ (name_text name ++ 32 ∷ rest)) ≡ Some (d, name)
row_again d name rest is =
    ap (λ node. option_zip node (spelled_name (word (behind (decimal d.0 ++ 32 ∷ (name_text name ++ 32 ∷ rest))))))
    (node_again d (name_text name ++ 32 ∷ rest) is.node)
    ∙ ap (λ left. option_zip (Some d) (spelled_name (word left))) (behind_first (decimal d.0) (name_text name ++ 32 ∷ rest) (decimal_solid d.0))
    ∙ ap (λ w. option_zip (Some d) (spelled_name w)) (word_first (name_text name) rest (name_solid name))
    ∙ ap (option_zip (Some d)) (name_again name is.named)

row_behind : (d : ℕ) (name rest : List ℕ) → behind (behind (decimal d ++ 32 ∷ (name_text name ++ 32 ∷ rest))) ≡ rest
row_behind d name rest =
    ap behind (behind_first (decimal d) (name_text name ++ 32 ∷ rest) (decimal_solid d)) ∙ behind_first (name_text name) rest (name_solid name)

place_again : (file : NodeId) (at : ℕ) (rest : List ℕ) → IsFilePlace file at
    → spelled_place (decimal file.0 ++ 32 ∷ (decimal at ++ 32 ∷ rest)) ≡ Some (file, at)
place_again file at rest is =
    ap (λ node. option_zip node (long_number (behind (decimal file.0 ++ 32 ∷ (decimal at ++ 32 ∷ rest))))) (node_again file (decimal at ++ 32 ∷ rest) is.node)
    ∙ ap (λ left. option_zip (Some file) (long_number left)) (behind_first (decimal file.0) (decimal at ++ 32 ∷ rest) (decimal_solid file.0))
    ∙ ap (option_zip (Some file)) (long_again at rest is.within)

place_behind : (file at : ℕ) (rest : List ℕ) → behind (behind (decimal file ++ 32 ∷ (decimal at ++ 32 ∷ rest))) ≡ rest
place_behind file at rest =
    ap behind (behind_first (decimal file) (decimal at ++ 32 ∷ rest) (decimal_solid file)) ∙ behind_first (decimal at) rest (decimal_solid at)

-- a verb comes first
verb_first : (v : List ℕ) (arguments : List ℕ) → IsSolid v → spelled_call_in (v ++ 32 ∷ arguments) ≡ spelled_call_with (spelled_verb v) arguments
verb_first v arguments solid =
    ap (λ w. spelled_call_with (spelled_verb w) (behind (v ++ 32 ∷ arguments))) (word_first v arguments solid)
    ∙ ap (spelled_call_with (spelled_verb v)) (behind_first v arguments solid)

-- a verb before a row
verb_row : (v : List ℕ) (d : ℕ) (name rest : List ℕ) → IsSolid v
    → spelled_call_in ((v ++ row_text d name) ++ rest) ≡ spelled_call_with (spelled_verb v) (decimal d ++ 32 ∷ (name_text name ++ rest))
verb_row v d name rest solid =
    ap spelled_call_in (append_assoc v (row_text d name) rest ∙ ap (λ later. v ++ later) (row_more d name rest))
    ∙ verb_first v (decimal d ++ 32 ∷ (name_text name ++ rest)) solid

-- a verb before a number
verb_number : (v : List ℕ) (n : ℕ) (rest : List ℕ) → IsSolid v
    → spelled_call_in ((v ++ number_text n) ++ rest) ≡ spelled_call_with (spelled_verb v) (decimal n ++ rest)
verb_number v n rest solid = ap spelled_call_in (append_assoc v (number_text n) rest) ∙ verb_first v (decimal n ++ rest) solid

-- a link's file and row
link_again : (file d : NodeId) (name rest : List ℕ) → IsNode file → IsRow d name
    → spelled_call verb.Link (decimal file.0 ++ 32 ∷ (decimal d.0 ++ 32 ∷ (name_text name ++ 32 ∷ rest))) ≡ Some (call.Link file d name)
link_again file d name rest node row =
    let later = decimal d.0 ++ 32 ∷ (name_text name ++ 32 ∷ rest) in
    ap (λ first. option_map made (option_zip first (spelled_row (behind (decimal file.0 ++ 32 ∷ later))))) (node_again file later node)
    ∙ ap (λ left. option_map made (option_zip (Some file) (spelled_row left))) (behind_first (decimal file.0) later (decimal_solid file.0))
    ∙ ap (λ second. option_map made (option_zip (Some file) second)) (row_again d name rest row)
  where
    made : NodeId × (NodeId × List ℕ) → Call
    made both = call.Link both.0 both.1.0 both.1.1

-- a rename's two rows
rename_again : (d : NodeId) (name : List ℕ) (to : NodeId) (to_name rest : List ℕ) → IsRow d name → IsRow to to_name
    → spelled_call verb.Rename (decimal d.0 ++ 32 ∷ (name_text name ++ 32 ∷ (decimal to.0 ++ 32 ∷ (name_text to_name ++ 32 ∷ rest))))
    ≡ Some (call.Rename d name to to_name)
rename_again d name to to_name rest row to_row =
    let later = decimal to.0 ++ 32 ∷ (name_text to_name ++ 32 ∷ rest) in
    ap (λ first. option_map made (option_zip first (spelled_row (behind (behind (decimal d.0 ++ 32 ∷ (name_text name ++ 32 ∷ later)))))))
    (row_again d name later row)
    ∙ ap (λ left. option_map made (option_zip (Some (d, name)) (spelled_row left))) (row_behind d.0 name later)
    ∙ ap (λ second. option_map made (option_zip (Some (d, name)) second)) (row_again to to_name rest to_row)
  where
    made : (NodeId × List ℕ) × (NodeId × List ℕ) → Call
    made both = call.Rename both.0.0 both.0.1 both.1.0 both.1.1

-- a write's place and bytes
write_again : (file : NodeId) (at : ℕ) (bytes rest : List ℕ) → IsFilePlace file at → IsChunk bytes
    → spelled_call verb.Write (decimal file.0 ++ 32 ∷ (decimal at ++ 32 ∷ (bytes_text bytes ++ 32 ∷ rest))) ≡ Some (call.Write file at bytes)
write_again file at bytes rest place chunk =
    let later = bytes_text bytes ++ 32 ∷ rest in
    ap (λ first. option_map made (option_zip first (hex_bytes (word (behind (behind (decimal file.0 ++ 32 ∷ (decimal at ++ 32 ∷ later))))))))
    (place_again file at later place)
    ∙ ap (λ left. option_map made (option_zip (Some (file, at)) (hex_bytes (word left)))) (place_behind file.0 at later)
    ∙ ap (λ w. option_map made (option_zip (Some (file, at)) (hex_bytes w))) (word_first (bytes_text bytes) rest (bytes_solid bytes))
    ∙ ap (λ second. option_map made (option_zip (Some (file, at)) second)) (chunk_again bytes chunk)
  where
    made : (NodeId × ℕ) × List ℕ → Call
    made both = call.Write both.0.0 both.0.1 both.1

-- a read's place and count
read_again : (file : NodeId) (at count : ℕ) (rest : List ℕ) → IsFilePlace file at → count ≤ 65536
    → spelled_call verb.Read (decimal file.0 ++ 32 ∷ (decimal at ++ 32 ∷ (decimal count ++ 32 ∷ rest))) ≡ Some (call.Read file at count)
read_again file at count rest place few =
    let later = decimal count ++ 32 ∷ rest in
    ap (λ first. option_map made (option_zip first (number_up_to 65536 (word (behind (behind (decimal file.0 ++ 32 ∷ (decimal at ++ 32 ∷ later))))))))
    (place_again file at later place)
    ∙ ap (λ left. option_map made (option_zip (Some (file, at)) (number_up_to 65536 (word left)))) (place_behind file.0 at later)
    ∙ ap (λ w. option_map made (option_zip (Some (file, at)) (number_up_to 65536 w))) (word_first (decimal count) rest (decimal_solid count))
    ∙ ap (λ second. option_map made (option_zip (Some (file, at)) second)) (number_again 65536 count few (omega arith))
  where
    made : (NodeId × ℕ) × ℕ → Call
    made both = call.Read both.0.0 both.0.1 both.1

-- What is written of a call is read as it.
pub call_again : (c : Call) (rest : List ℕ) → IsCall c → spelled_call_in (call_text c ++ 32 ∷ rest) ≡ Some c
call_again (call.Look d name) rest is =
    verb_row (codes "look") d.0 name (32 ∷ rest) refl ∙ ap (option_map (λ row. call.Look row.0 row.1)) (row_again d name rest is)
call_again (call.Make d name File) rest is =
    verb_row (codes "create") d.0 name (32 ∷ rest) refl ∙ ap (option_map (λ row. call.Make row.0 row.1 File)) (row_again d name rest is)
call_again (call.Make d name Directory) rest is =
    verb_row (codes "mkdir") d.0 name (32 ∷ rest) refl ∙ ap (option_map (λ row. call.Make row.0 row.1 Directory)) (row_again d name rest is)
call_again (call.Link file d name) rest is =
    ap spelled_call_in (append_assoc (codes "link" ++ number_text file.0) (row_text d.0 name) (32 ∷ rest))
    ∙ verb_number (codes "link") file.0 (row_text d.0 name ++ 32 ∷ rest) refl
    ∙ ap (λ later. spelled_call verb.Link (decimal file.0 ++ later)) (row_more d.0 name (32 ∷ rest))
    ∙ link_again file d name rest is.0 is.1
call_again (call.Unlink d name) rest is =
    verb_row (codes "unlink") d.0 name (32 ∷ rest) refl ∙ ap (option_map (λ row. call.Unlink row.0 row.1)) (row_again d name rest is)
call_again (call.Rmdir d name) rest is =
    verb_row (codes "rmdir") d.0 name (32 ∷ rest) refl ∙ ap (option_map (λ row. call.Rmdir row.0 row.1)) (row_again d name rest is)
call_again (call.Rename d name to to_name) rest is =
    ap spelled_call_in (append_assoc (codes "rename" ++ row_text d.0 name) (row_text to.0 to_name) (32 ∷ rest))
    ∙ verb_row (codes "rename") d.0 name (row_text to.0 to_name ++ 32 ∷ rest) refl
    ∙ ap (λ later. spelled_call verb.Rename (decimal d.0 ++ 32 ∷ (name_text name ++ later))) (row_more to.0 to_name (32 ∷ rest))
    ∙ rename_again d name to to_name rest is.0 is.1
call_again (call.Write file at bytes) rest is =
    ap spelled_call_in (four_more (codes "write" ++ number_text file.0) (number_text at) (32 ∷ []) (bytes_text bytes) (32 ∷ rest))
    ∙ verb_number (codes "write") file.0 (32 ∷ (decimal at ++ 32 ∷ (bytes_text bytes ++ 32 ∷ rest))) refl
    ∙ write_again file at bytes rest is.0 is.1
call_again (call.Read file at count) rest is =
    ap spelled_call_in (three_more (codes "read" ++ number_text file.0) (number_text at) (number_text count) (32 ∷ rest))
    ∙ verb_number (codes "read") file.0 (32 ∷ (decimal at ++ 32 ∷ (decimal count ++ 32 ∷ rest))) refl
    ∙ read_again file at count rest is.0 is.1
call_again (call.Trunc file size) rest is =
    ap spelled_call_in (append_assoc (codes "trunc" ++ number_text file.0) (number_text size) (32 ∷ rest))
    ∙ verb_number (codes "trunc") file.0 (32 ∷ (decimal size ++ 32 ∷ rest)) refl
    ∙ ap (option_map (λ place. call.Trunc place.0 place.1)) (place_again file size rest is)
call_again (call.Stat node) rest is = verb_number (codes "stat") node.0 (32 ∷ rest) refl ∙ ap (option_map call.Stat) (node_again node rest is)
call_again (call.List d) rest is = verb_number (codes "list") d.0 (32 ∷ rest) refl ∙ ap (option_map call.List) (node_again d rest is)
call_again (call.Fsync node) rest is = verb_number (codes "fsync") node.0 (32 ∷ rest) refl ∙ ap (option_map call.Fsync) (node_again node rest is)
