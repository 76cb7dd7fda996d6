-- The bytes of a content are put one part behind the other.
use Rattle.std.specs.Result.{is_ok}
use Rattle.std.proofs.Common.{◌≡◌, ℕ, ◌≤◌, Result, Ok, Err, OnOk, if◌then◌else◌, List, ◌++◌, length, take, sym, ap, ◌∙◌}
use Rattle.std.specs.List.{flat_map}
use Rattle.std.proofs.lemmas.List.{append_assoc, take_all}
use Rattle.fixed_width.specs.Fields.{bytes_of_u16, bytes_of_u32}
use Rattle.index_file.specs.declared.content.NameIds.{NameIds}
use Rattle.index_file.specs.declared.content.TagIds.{TagIds}
use Rattle.index_file.specs.declared.content.MeasurementIds.{MeasurementIds}
use Rattle.index_file.specs.declared.content.Content.{Content}
use Rattle.index_file.specs.Format.{counted_bytes, front_bytes, front_of, head, ids_bytes, measurement_bytes, named_bytes, tag_bytes, text_bytes}

-- one part, and another behind it
pub two_parts : (out a b x y : List ℕ) → x ≡ out ++ a → y ≡ x ++ b → y ≡ out ++ (a ++ b)
two_parts out a b x y e f = f ∙ ap (λ (l : List ℕ). l ++ b) e ∙ append_assoc out a b

pub text_put : (out text x y : List ℕ) → x ≡ out ++ bytes_of_u16 (length text) → y ≡ x ++ text → y ≡ out ++ text_bytes text
unfolding text_bytes
text_put out text x y e f = two_parts out (bytes_of_u16 (length text)) text x y e f

-- the count, and all items
pub counted_put : {X : Type 0} (item_bytes : X → List ℕ) (out : List ℕ) (items : List X) (i : ℕ) (y : List ℕ) → length items ≤ i → y ≡ (out ++ bytes_of_u32 (length items)) ++ flat_map item_bytes (take i items)
    → y ≡ out ++ counted_bytes item_bytes items
unfolding counted_bytes
counted_put {X} item_bytes out items i y end e =
    e ∙ ap (λ (xs : List X). (out ++ bytes_of_u32 (length items)) ++ flat_map item_bytes xs) (take_all i items end) ∙ append_assoc out (bytes_of_u32 (length items)) (flat_map item_bytes items)

pub list_put : (out : List ℕ) (list : NameIds) (x y : List ℕ) → x ≡ out ++ text_bytes list.name → y ≡ x ++ ids_bytes list.ids → y ≡ out ++ named_bytes list
unfolding named_bytes
list_put out list x y e f = two_parts out (text_bytes list.name) (ids_bytes list.ids) x y e f

pub tag_put : (out : List ℕ) (tag : TagIds) (x y : List ℕ) → x ≡ out ++ text_bytes tag.key → y ≡ x ++ counted_bytes named_bytes tag.values → y ≡ out ++ tag_bytes tag
unfolding tag_bytes
tag_put out tag x y e f = two_parts out (text_bytes tag.key) (counted_bytes named_bytes tag.values) x y e f

pub measurement_put : (out : List ℕ) (m : MeasurementIds) (x y z w : List ℕ) → x ≡ out ++ text_bytes m.name → y ≡ x ++ ids_bytes m.ids → z ≡ y ++ counted_bytes named_bytes m.fields → w ≡ z ++ counted_bytes tag_bytes m.tags
    → w ≡ out ++ measurement_bytes m
unfolding measurement_bytes
measurement_put out m x y z w e f g h =
    two_parts out ((text_bytes m.name ++ ids_bytes m.ids) ++ counted_bytes named_bytes m.fields) (counted_bytes tag_bytes m.tags) z w
    (two_parts out (text_bytes m.name ++ ids_bytes m.ids) (counted_bytes named_bytes m.fields) y z (two_parts out (text_bytes m.name) (ids_bytes m.ids) x y e f) g) h

pub front_put : (out : List ℕ) (content : Content) (x y : List ℕ) → x ≡ out ++ head → y ≡ x ++ counted_bytes measurement_bytes content.measurements → y ≡ out ++ front_bytes content
unfolding front_of counted_bytes
front_put out content x y e f =
    two_parts out head (bytes_of_u32 (length content.measurements) ++ flat_map measurement_bytes content.measurements) x y e f
    ∙ ap (λ (l : List ℕ). out ++ l) (sym (append_assoc head (bytes_of_u32 (length content.measurements)) (flat_map measurement_bytes content.measurements)))

-- what was written where the call answered Ok
pub if_written : {T E : Type 0} (r : Result T E) (new whole old : List ℕ) → new ≡ (if is_ok r then whole else old) → OnOk r (new ≡ whole)
if_written (Ok x) new whole old e = e
if_written (Err x) new whole old e = tt
