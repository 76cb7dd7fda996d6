-- What a writer holds after each of its steps.
use Rattle.std.proofs.Common.{◌≡◌, ℕ, ℤ, ◌+◌, ◌<◌, ◌^◌, ◌<ℤ◌, ◌⊎◌, ⊎_elim, List, [], ◌∷◌, ◌++◌, length, map, Option, Some, None, IfSome, true, false, Bool, not, ◌==◌, Result, Ok, Err, OnOk, refl, sym, ap, ◌∙◌, subst, arith}
use Rattle.std.specs.Prelude.{All, fold, max}
use Rattle.std.specs.List.{flat_map, last_or}
use Rattle.std.specs.Ordering.{is_eq, nat_cmp}
use Rattle.std.specs.Str.{bytes_eq}
use Rattle.std.specs.declared.cmp.Ordering.TheVariants.{Less}
use Rattle.std.specs.Cmp.Lexicographic.{slice_cmp}
use Rattle.std.proofs.lemmas.Bool.{false≢true}
use Rattle.std.proofs.lemmas.Bool.Decides.{Decides-eqb}
use Rattle.std.proofs.lemmas.Slice.Eq.{bytes_eq-Decides}
use Rattle.std.proofs.lemmas.Cmp.{nat_list_eq_equiv}
use Rattle.std.proofs.lemmas.List.{append_assoc, append-nil, length-append}
use Rattle.std.proofs.lemmas.List.Elements.{All-cons, All-nil, All-push}
use Rattle.std.proofs.lemmas.Map.Text.{is_eq-slice_cmp}
use Rattle.fixed_width.specs.Fields.{bytes_of_u64}
use Rattle.tsdb_types.specs.Moments.{IsMoment}
use Rattle.tsdb_types.specs.Values.{kind_of}
use Rattle.tsdb_types.specs.declared.value.Kind.{Kind}
use Rattle.tsdb_types.specs.declared.value.Value.{Value}
use Rattle.value_codec.specs.Coding.{IsInRange}
use Rattle.tsm_format.specs.declared.entry.Entry.{Entry}
use Rattle.tsm_format.specs.declared.row.KeyRow.{KeyRow}
use Rattle.tsm_format.specs.Faults.{last_key}
use Rattle.tsm_format.specs.Format.{index_bytes}
use Rattle.tsm_format.specs.Frame.{header}
use Rattle.tsm_format.specs.Rows.{AreEntries, AreIndex, AreRows, IsAbove, IsEntry, IsLater, IsRow, end_of, first_block, size_of, sizes_of}
use Rattle.tsm_format.proofs.RowLemmas.{last_key-push, rows_push as more_rows, sizes-push}
use Rattle.point_model.specs.Rows.{Row}
use Rattle.tsm_file.specs.Written.{AreKeys, IsCut, IsHeld, KeyBlocks, KeyedPoint, all_blocks, all_points, block_bytes, entries_of, entry_of, index_at, joined, key_bytes, keyed, row_of, rows_of}
use Rattle.tsm_file.specs.Writing.{AreDone, Continues, Follows, IsBegun, IsClosed, IsNew, IsOpen, IsOutput, MayCome, count_of, end_time}
use Rattle.tsm_file.specs.Steps.{EndsBlock, IsEnded, MayBegin, MayGoOn}
use Rattle.tsm_file.specs.declared.facts.TsmFacts.{TsmFacts}
use Rattle.tsm_file.specs.declared.writer.TsmWriter.{TsmWriter}
use Rattle.tsm_file.proofs.WrittenLemmas.{HasLast, count_at_least, end_time-push, entries-push, first_time-push, flat-push, held_more, held_most, held_one, held_some, keyed-push, last_is, length-entries, length-joined, length-keyed, more_entries, rows-push, size-entries, sizes-rows}

-- the same key, under other names of its parts
same_begun : (last last' : Option (List ℕ)) (place place' : ℕ) (key key' : List ℕ) (kind kind' : Kind) (full : List (List Row)) (entries entries' : List Entry) (left left' : List Row)
    → last' ≡ last → place' ≡ place → key' ≡ key → kind' ≡ kind → entries' ≡ entries → left' ≡ left → IsBegun last place key kind full entries left → IsBegun last' place' key' kind' full entries' left'
same_begun last last' place place' key key' kind kind' full entries entries' left left' a b c d e f is =
    subst (λ (x : Option (List ℕ)). IsBegun x place' key' kind' full entries' left') (sym a)
    (subst (λ (x : ℕ). IsBegun last x key' kind' full entries' left') (sym b)
    (subst (λ (x : List ℕ). IsBegun last place x kind' full entries' left') (sym c)
    (subst (λ (x : Kind). IsBegun last place key x full entries' left') (sym d)
    (subst (λ (x : List Entry). IsBegun last place key kind full x left') (sym e)
    (subst (λ (x : List Row). IsBegun last place key kind full entries x) (sym f) is)))))

-- a file of which the header alone is written
pub starts : {W : Type 0} (tells : Type 0) (content : List ℕ) (writer : TsmWriter W) → writer.rows.items ≡ [] → writer.points.items ≡ [] → writer.end ≡ 5 → writer.count ≡ 0 → (tells → content ≡ header) → IsNew tells content writer []
starts tells content writer rows points end count bytes = record {
  none = refl;
  rows = rows;
  closed = record {
    keys = [];
    done = record {
      held = All-nil (λ (one : KeyBlocks). All (IsHeld one.kind) one.blocks);
      cut = All-nil (λ (one : KeyBlocks). IsCut one.blocks);
      rows_are = rows;
      good = subst (AreRows None first_block) (sym rows) tt;
    };
    all = refl;
    left = points;
    end = end ∙ (let none = ap sizes_of rows in omega arith);
    count = count;
    bytes = λ told. bytes told ∙ sym (append-nil header);
  };
}

-- a row has so few entries that two bytes hold their count
pub rows_are_short : (last : Option (List ℕ)) (place : ℕ) (rows : List KeyRow) → AreRows last place rows → All (λ row. length row.entries < 2 ^ 16) rows
rows_are_short last place [] are = All-nil (λ (row : KeyRow). length row.entries < 2 ^ 16)
rows_are_short last place (row ∷ rows) are =
    All-cons (λ (r : KeyRow). length r.entries < 2 ^ 16) row rows are.0.count (rows_are_short (Some row.key) (place + size_of row.entries) rows are.1)

-- ---- a key begins

pub opens : {W : Type 0} (tells : Type 0) (content : List ℕ) (old new : TsmWriter W) (pushed : List KeyedPoint) (point : KeyedPoint)
    → IsClosed tells content old pushed → MayBegin (last_key None old.rows.items) point.key → IsMoment point.time → IsInRange point.value
    → new.rows.items ≡ old.rows.items → new.key.items ≡ point.key → new.kind ≡ kind_of point.value → new.entries.items ≡ [] → new.points.items ≡ old.points.items ++ ((point.time, point.value) ∷ [])
    → new.end ≡ old.end → new.count ≡ old.count → IsOpen tells content new (pushed ++ (point ∷ []))
opens tells content old new pushed point closed may moment range rows key kind entries points end count =
    let left : new.points.items ≡ (point.time, point.value) ∷ [] = points ∙ ap (λ (l : List Row). l ++ ((point.time, point.value) ∷ [])) closed.left in
    record {
      keys = closed.keys;
      full = [];
      done = subst (λ (r : List KeyRow). AreDone r closed.keys) (sym rows) closed.done;
      begun = same_begun (last_key None old.rows.items) (last_key None new.rows.items) (first_block + sizes_of old.rows.items) (first_block + sizes_of new.rows.items)
          point.key new.key.items (kind_of point.value) new.kind [] [] new.entries.items ((point.time, point.value) ∷ []) new.points.items
          (ap (last_key None) rows) (ap (λ (r : List KeyRow). first_block + sizes_of r) rows) key kind entries left
          (record {
            fits = may.fits;
            mark = may.mark;
            above = may.above;
            held = All-nil (IsHeld (kind_of point.value));
            each = All-nil (λ (block : List Row). length block ≡ 1000);
            room = omega arith;
            entries_are = refl;
            good = tt;
            left_are = held_one (kind_of point.value) (point.time, point.value) moment refl range;
            later = tt;
          });
      all = ap (λ (k : List ℕ). all_points closed.keys ++ keyed k new.points.items) key
          ∙ ap (λ (l : List Row). all_points closed.keys ++ keyed point.key l) left
          ∙ ap (λ (l : List KeyedPoint). l ++ (point ∷ [])) closed.all;
      end = end ∙ closed.end ∙ ap (λ (r : List KeyRow). first_block + sizes_of r) (sym rows) ∙ (let none = ap size_of entries in omega arith);
      count = count ∙ closed.count ∙ ap length (sym closed.all) ∙ omega arith;
      bytes = λ is. closed.bytes is ∙ sym (append-nil (header ++ all_blocks closed.keys));
    }

-- ---- a key goes on

point_under : (keys : List KeyBlocks) (key : List ℕ) (points : List Row) (next : Row) (earlier : List Row) (pushed : List KeyedPoint) → all_points keys ++ keyed key (earlier ++ points) ≡ pushed
    → all_points keys ++ keyed key (earlier ++ (points ++ (next ∷ []))) ≡ pushed ++ (record { key = key; time = next.0; value = next.1 } ∷ [])
point_under keys key points next earlier pushed all =
    ap (λ (l : List Row). all_points keys ++ keyed key l) (sym (append_assoc earlier points (next ∷ [])))
    ∙ ap (λ (l : List KeyedPoint). all_points keys ++ l) (keyed-push key (earlier ++ points) next)
    ∙ sym (append_assoc (all_points keys) (keyed key (earlier ++ points)) (record { key = key; time = next.0; value = next.1 } ∷ []))
    ∙ ap (λ (l : List KeyedPoint). l ++ (record { key = key; time = next.0; value = next.1 } ∷ [])) all

pub goes_on : {W : Type 0} (tells : Type 0) (content : List ℕ) (old new : TsmWriter W) (pushed : List KeyedPoint) (time : ℤ) (value : Value)
    → IsOpen tells content old pushed → MayGoOn old time value → length old.points.items < 1000 → IsMoment time → IsInRange value
    → new.rows.items ≡ old.rows.items → new.key.items ≡ old.key.items → new.kind ≡ old.kind → new.entries.items ≡ old.entries.items → new.points.items ≡ old.points.items ++ ((time, value) ∷ [])
    → new.end ≡ old.end → new.count ≡ old.count → IsOpen tells content new (pushed ++ (record { key = old.key.items; time = time; value = value } ∷ []))
goes_on tells content old new pushed time value holds may few moment range rows key kind entries points end count =
    let begun = holds.begun in
    let next : Row = (time, value) in
    record {
      keys = holds.keys;
      full = holds.full;
      done = subst (λ (r : List KeyRow). AreDone r holds.keys) (sym rows) holds.done;
      begun = same_begun (last_key None old.rows.items) (last_key None new.rows.items) (first_block + sizes_of old.rows.items) (first_block + sizes_of new.rows.items)
          old.key.items new.key.items old.kind new.kind holds.full old.entries.items new.entries.items (old.points.items ++ (next ∷ [])) new.points.items
          (ap (last_key None) rows) (ap (λ (r : List KeyRow). first_block + sizes_of r) rows) key kind entries points
          (record {
            fits = begun.fits;
            mark = begun.mark;
            above = begun.above;
            held = begun.held;
            each = begun.each;
            room = begun.room;
            entries_are = begun.entries_are;
            good = begun.good;
            left_are = held_more old.kind old.points.items next begun.left_are few may.later moment may.alike range;
            later = subst (IsLater (end_time None old.entries.items)) (sym (first_time-push old.kind old.points.items next begun.left_are)) begun.later;
          });
      all = ap (λ (k : List ℕ). all_points holds.keys ++ keyed k (joined holds.full ++ new.points.items)) key
          ∙ ap (λ (l : List Row). all_points holds.keys ++ keyed old.key.items (joined holds.full ++ l)) points
          ∙ point_under holds.keys old.key.items old.points.items next (joined holds.full) pushed holds.all;
      end = end ∙ holds.end ∙ ap (λ (r : List KeyRow). first_block + sizes_of r + size_of old.entries.items) (sym rows) ∙ ap (λ (l : List Entry). first_block + sizes_of new.rows.items + size_of l) (sym entries);
      count = count ∙ holds.count;
      bytes = λ is. holds.bytes is ∙ ap (λ (k : Kind). header ++ all_blocks holds.keys ++ flat_map (block_bytes k) holds.full) (sym kind);
    }

size-push : (entries : List Entry) (entry : Entry) → size_of (entries ++ (entry ∷ [])) ≡ size_of entries + entry.size
size-push [] entry = omega arith
size-push (x ∷ xs) entry = let rest = size-push xs entry in omega arith

-- the entries of a key and the one of a further block
record HasMore (place : ℕ) (kind : Kind) (full : List (List Row)) (entries : List Entry) (block : List Row) (end : ℕ) : Type 0 where
  are : entries ++ (entry_of kind end block ∷ []) ≡ entries_of kind place (full ++ (block ∷ []))
  good : AreEntries None place (entries ++ (entry_of kind end block ∷ []))
  size : size_of (entries ++ (entry_of kind end block ∷ [])) ≡ size_of entries + length (block_bytes kind block)

has_more : (last : Option (List ℕ)) (place : ℕ) (key : List ℕ) (kind : Kind) (full : List (List Row)) (entries : List Entry) (left : List Row) (end : ℕ)
    → IsBegun last place key kind full entries left → end ≡ place + size_of entries → IsEntry end (entry_of kind end left) → HasMore place kind full entries left end
has_more last place key kind full entries left end begun at is =
    let sizes = ap size_of begun.entries_are ∙ size-entries kind place full in
    let same : end ≡ place + length (flat_map (block_bytes kind) full) = omega arith in
    record {
      are = ap (λ (l : List Entry). l ++ (entry_of kind end left ∷ [])) begun.entries_are
          ∙ ap (λ (n : ℕ). entries_of kind place full ++ (entry_of kind n left ∷ [])) same
          ∙ sym (entries-push kind place full left);
      good = more_entries place entries (entry_of kind end left) begun.good (subst (λ (n : ℕ). IsEntry n (entry_of kind end left)) at is) begun.later;
      size = size-push entries (entry_of kind end left);
    }

pub goes_full : {W : Type 0} (tells : Type 0) (content : W → List ℕ) (old mid new : TsmWriter W) (pushed : List KeyedPoint) (time : ℤ) (value : Value)
    → IsOpen tells (content old.device) old pushed → MayGoOn old time value → length old.points.items ≡ 1000 → IsMoment time → IsInRange value → EndsBlock tells content old mid
    → new.rows.items ≡ mid.rows.items → new.key.items ≡ mid.key.items → new.kind ≡ mid.kind → new.entries.items ≡ mid.entries.items → new.points.items ≡ mid.points.items ++ ((time, value) ∷ [])
    → new.end ≡ mid.end → new.count ≡ mid.count → IsOpen tells (content mid.device) new (pushed ++ (record { key = old.key.items; time = time; value = value } ∷ []))
goes_full tells content old mid new pushed time value holds may full moment range ends rows key kind entries points end count =
    let begun = holds.begun in
    let block = old.points.items in
    let next : Row = (time, value) in
    let place = first_block + sizes_of old.rows.items in
    let rows-are : new.rows.items ≡ old.rows.items = rows ∙ ends.rows in
    let key-is : new.key.items ≡ old.key.items = key ∙ ends.key in
    let kind-is : new.kind ≡ old.kind = kind ∙ ends.kind in
    let left : new.points.items ≡ next ∷ [] = points ∙ ap (λ (l : List Row). l ++ (next ∷ [])) ends.left in
    let more = has_more (last_key None old.rows.items) place old.key.items old.kind holds.full old.entries.items block old.end begun holds.end ends.fits in
    let counted = length-entries old.kind place holds.full in
    let entries-count = ap length begun.entries_are in
    let pushed-full = length-append holds.full (block ∷ []) in
    record {
      keys = holds.keys;
      full = holds.full ++ (block ∷ []);
      done = subst (λ (r : List KeyRow). AreDone r holds.keys) (sym rows-are) holds.done;
      begun = same_begun (last_key None old.rows.items) (last_key None new.rows.items) place (first_block + sizes_of new.rows.items)
          old.key.items new.key.items old.kind new.kind (holds.full ++ (block ∷ [])) (old.entries.items ++ (entry_of old.kind old.end block ∷ [])) new.entries.items (next ∷ []) new.points.items
          (ap (last_key None) rows-are) (ap (λ (r : List KeyRow). first_block + sizes_of r) rows-are) key-is kind-is (entries ∙ ends.entries) left
          (record {
            fits = begun.fits;
            mark = begun.mark;
            above = begun.above;
            held = All-push (IsHeld old.kind) holds.full block begun.held begun.left_are;
            each = All-push (λ (b : List Row). length b ≡ 1000) holds.full block begun.each full;
            room = let few = may.few in omega arith;
            entries_are = more.are;
            good = more.good;
            left_are = held_one old.kind next moment may.alike range;
            later = subst (λ (t : Option ℤ). IsLater t time) (sym (end_time-push None old.entries.items (entry_of old.kind old.end block))) may.later;
          });
      all = ap (λ (k : List ℕ). all_points holds.keys ++ keyed k (joined (holds.full ++ (block ∷ [])) ++ new.points.items)) key-is
          ∙ ap (λ (l : List Row). all_points holds.keys ++ keyed old.key.items (joined (holds.full ++ (block ∷ [])) ++ l)) left
          ∙ ap (λ (l : List Row). all_points holds.keys ++ keyed old.key.items (l ++ (next ∷ []))) (flat-push (λ (b : List Row). b) holds.full block)
          ∙ ap (λ (l : List Row). all_points holds.keys ++ keyed old.key.items l) (append_assoc (joined holds.full) block (next ∷ []))
          ∙ point_under holds.keys old.key.items block next (joined holds.full) pushed holds.all;
      end =
          let a = end ∙ ends.end in
          let b = holds.end in
          let c = ap sizes_of rows-are in
          let d = ap size_of (entries ∙ ends.entries) ∙ more.size in
          omega arith;
      count =
          let a = count ∙ ends.count in
          let b = holds.count in
          let c = ap length (flat-push (λ (b : List Row). b) holds.full block) ∙ length-append (joined holds.full) block in
          omega arith;
      bytes = λ is.
          ends.bytes is
          ∙ ap (λ (l : List ℕ). l ++ block_bytes old.kind block) (holds.bytes is)
          ∙ append_assoc (header ++ all_blocks holds.keys) (flat_map (block_bytes old.kind) holds.full) (block_bytes old.kind block)
          ∙ ap (λ (l : List ℕ). header ++ all_blocks holds.keys ++ l) (sym (flat-push (block_bytes old.kind) holds.full block))
          ∙ ap (λ (k : Kind). header ++ all_blocks holds.keys ++ flat_map (block_bytes k) (holds.full ++ (block ∷ []))) (sym kind-is);
    }

-- ---- a key ends

same_row : (x y : KeyRow) → x.key ≡ y.key → x.kind ≡ y.kind → x.entries ≡ y.entries → x ≡ y
same_row x y a b c = λ i. record { key = a i; kind = b i; entries = c i }

-- where the blocks of the last key begin
last_place : (rows : List KeyRow) (keys : List KeyBlocks) → rows ≡ rows_of first_block keys → first_block + sizes_of rows ≡ first_block + length (all_blocks keys)
last_place rows keys are = let sizes = ap sizes_of are ∙ sizes-rows first_block keys in omega arith

-- the last key with all its blocks
abbrev whole_key : List ℕ → Kind → List (List Row) → List Row → KeyBlocks
whole_key key kind full left = record { key = key; kind = kind; blocks = full ++ (left ∷ []) }

pub closes : {W : Type 0} (tells : Type 0) (content : W → List ℕ) (old mid new : TsmWriter W) (row : KeyRow) (pushed : List KeyedPoint)
    → IsOpen tells (content old.device) old pushed → EndsBlock tells content old mid
    → new.rows.items ≡ mid.rows.items ++ (row ∷ []) → row.key ≡ mid.key.items → row.kind ≡ mid.kind → row.entries ≡ mid.entries.items
    → new.points.items ≡ mid.points.items → new.end ≡ mid.end → new.count ≡ mid.count → IsClosed tells (content mid.device) new pushed
closes tells content old mid new row pushed holds ends rows key kind entries points end count =
    let begun = holds.begun in
    let done = holds.done in
    let keys = holds.keys in
    let block = old.points.items in
    let place = first_block + sizes_of old.rows.items in
    let one = whole_key old.key.items old.kind holds.full block in
    let more = has_more (last_key None old.rows.items) place old.key.items old.kind holds.full old.entries.items block old.end begun holds.end ends.fits in
    let place-is : place ≡ first_block + length (all_blocks keys) = last_place old.rows.items keys done.rows_are in
    let row-is : row ≡ row_of place one = same_row row (row_of place one) (key ∙ ends.key) (kind ∙ ends.kind) (entries ∙ ends.entries ∙ more.are) in
    let rows-are : new.rows.items ≡ old.rows.items ++ (row ∷ []) = rows ∙ ap (λ (l : List KeyRow). l ++ (row ∷ [])) ends.rows in
    let lengths = length-entries old.kind place (holds.full ++ (block ∷ [])) in
    let pushed-full = length-append holds.full (block ∷ []) in
    let room = begun.room in
    let is_row : IsRow (last_key None old.rows.items) place (row_of place one) = record {
      fits = begun.fits;
      mark = begun.mark;
      above = begun.above;
      some = λ none. let no = ap length none in omega arith;
      count = omega arith;
      blocks = subst (AreEntries None place) more.are more.good;
    } in
    record {
      keys = keys ++ (one ∷ []);
      done = record {
        held = All-push (λ (k : KeyBlocks). All (IsHeld k.kind) k.blocks) keys one done.held (All-push (IsHeld old.kind) holds.full block begun.held begun.left_are);
        cut = All-push (λ (k : KeyBlocks). IsCut k.blocks) keys one done.cut (record {
          full = holds.full;
          last = block;
          are = refl;
          each = begun.each;
          some = held_some old.kind block begun.left_are;
          most = held_most old.kind block begun.left_are;
        });
        rows_are = rows-are
            ∙ ap (λ (r : KeyRow). old.rows.items ++ (r ∷ [])) row-is
            ∙ ap (λ (l : List KeyRow). l ++ (row_of place one ∷ [])) done.rows_are
            ∙ ap (λ (n : ℕ). rows_of first_block keys ++ (row_of n one ∷ [])) place-is
            ∙ sym (rows-push first_block keys one);
        good = subst (AreRows None first_block) (sym rows-are)
            (more_rows None first_block old.rows.items row done.good (subst (IsRow (last_key None old.rows.items) place) (sym row-is) is_row));
      };
      all = flat-push (λ (k : KeyBlocks). keyed k.key (joined k.blocks)) keys one
          ∙ ap (λ (l : List Row). all_points keys ++ keyed old.key.items l) (flat-push (λ (b : List Row). b) holds.full block)
          ∙ holds.all;
      left = points ∙ ends.left;
      end =
          let a = end ∙ ends.end in
          let b = holds.end in
          let c = ap sizes_of rows-are ∙ sizes-push old.rows.items row in
          let d = ap size_of (entries ∙ ends.entries) ∙ more.size in
          omega arith;
      count =
          let a = count ∙ ends.count in
          let b = holds.count in
          let c = ap length (sym holds.all) ∙ length-append (all_points keys) (keyed old.key.items (joined holds.full ++ block)) in
          let d = length-keyed old.key.items (joined holds.full ++ block) in
          let e = length-append (joined holds.full) block in
          omega arith;
      bytes = λ is.
          ends.bytes is
          ∙ ap (λ (l : List ℕ). l ++ block_bytes old.kind block) (holds.bytes is)
          ∙ append_assoc (header ++ all_blocks keys) (flat_map (block_bytes old.kind) holds.full) (block_bytes old.kind block)
          ∙ ap (λ (l : List ℕ). header ++ all_blocks keys ++ l) (sym (flat-push (block_bytes old.kind) holds.full block))
          ∙ append_assoc header (all_blocks keys) (key_bytes one)
          ∙ ap (λ (l : List ℕ). header ++ l) (sym (flat-push key_bytes keys one));
    }

-- the last of the rows has the key that was the last
pub last_closed : (rows mid : List KeyRow) (row : KeyRow) (key : List ℕ) → rows ≡ mid ++ (row ∷ []) → row.key ≡ key → last_key None rows ≡ Some key
last_closed rows mid row key is same = ap (last_key None) is ∙ last_key-push None mid row ∙ ap (λ (k : List ℕ). Some k) same

-- ---- which point may come

not_less : (key : List ℕ) → slice_cmp nat_cmp key key ≡ Less → ⊥
not_less key less = false≢true (ap is_eq (sym less) ∙ is_eq-slice_cmp key key ∙ nat_list_eq_equiv.refl key)

has_last : {W : Type 0} (tells : Type 0) (content : List ℕ) (writer : TsmWriter W) (pushed : List KeyedPoint) → IsOpen tells content writer pushed → HasLast writer.key.items writer.kind writer.points.items (last_or None pushed)
has_last tells content writer pushed holds =
    subst (λ (l : List KeyedPoint). HasLast writer.key.items writer.kind writer.points.items (last_or None l)) holds.all
    (last_is writer.key.items writer.kind (all_points holds.keys) (joined holds.full) writer.points.items holds.begun.left_are)

follows_last : {W : Type 0} (tells : Type 0) (content : List ℕ) (writer : TsmWriter W) (pushed : List KeyedPoint) (point : KeyedPoint) → IsOpen tells content writer pushed → MayCome pushed point
    → (last : HasLast writer.key.items writer.kind writer.points.items (last_or None pushed)) → Follows (record { key = writer.key.items; time = last.point.0; value = last.point.1 }) point
follows_last tells content writer pushed point holds may last = subst (λ (o : Option KeyedPoint). IfSome o (λ before. Follows before point)) last.is may.follows

-- one of the last key
pub may_go_on : {W : Type 0} (tells : Type 0) (content : List ℕ) (writer : TsmWriter W) (pushed : List KeyedPoint) (point : KeyedPoint)
    → IsOpen tells content writer pushed → MayCome pushed point → writer.key.items ≡ point.key → MayGoOn writer point.time point.value
may_go_on tells content writer pushed point holds may same =
    let last = has_last tells content writer pushed holds in
    let points = writer.points.items in
    let whole : pushed ≡ all_points holds.keys ++ keyed point.key (joined holds.full ++ points) = sym holds.all ∙ ap (λ (k : List ℕ). all_points holds.keys ++ keyed k (joined holds.full ++ points)) same in
    let least = count_at_least point.key (all_points holds.keys) (joined holds.full ++ points) in
    let many : count_of point.key pushed ≡ count_of point.key (all_points holds.keys ++ keyed point.key (joined holds.full ++ points)) = ap (count_of point.key) whole in
    let few = may.few in
    let sum = length-append (joined holds.full) points in
    let full = length-joined holds.full holds.begun.each in
    let entries = ap length holds.begun.entries_are ∙ length-entries writer.kind (first_block + sizes_of writer.rows.items) holds.full in
    ⊎_elim
    (λ less. absurd (not_less point.key (subst (λ (k : List ℕ). slice_cmp nat_cmp k point.key ≡ Less) same less)))
    (λ (on : Continues (record { key = writer.key.items; time = last.point.0; value = last.point.1 }) point). record {
      later = subst (λ (t : ℤ). t <ℤ point.time) last.time on.later;
      alike = sym on.alike ∙ last.alike;
      few = omega arith;
    })
    (follows_last tells content writer pushed point holds may last)

-- one of a further key
pub may_begin : {W : Type 0} (tells : Type 0) (content : List ℕ) (writer : TsmWriter W) (pushed : List KeyedPoint) (point : KeyedPoint)
    → IsOpen tells content writer pushed → MayCome pushed point → (writer.key.items ≡ point.key → ⊥) → MayBegin (Some writer.key.items) point.key
may_begin tells content writer pushed point holds may other =
    let last = has_last tells content writer pushed holds in
    let fits = may.fits in
    record {
      fits = omega arith;
      mark = may.mark;
      above = ⊎_elim
          (λ less. less)
          (λ (on : Continues (record { key = writer.key.items; time = last.point.0; value = last.point.1 }) point). absurd (other on.key))
          (follows_last tells content writer pushed point holds may last);
    }

-- the first one
pub may_be_first : (rows : List KeyRow) (pushed : List KeyedPoint) (point : KeyedPoint) → rows ≡ [] → MayCome pushed point → MayBegin (last_key None rows) point.key
may_be_first rows pushed point none may =
    let fits = may.fits in
    record { fits = omega arith; mark = may.mark; above = subst (λ (r : List KeyRow). IsAbove (last_key None r) point.key) (sym none) tt }

-- an holds writer has points that are left
pub open_has_some : {W : Type 0} (tells : Type 0) (content : List ℕ) (writer : TsmWriter W) (pushed : List KeyedPoint) → IsOpen tells content writer pushed → writer.points.items ≡ [] → ⊥
open_has_some tells content writer pushed holds none =
    let some = held_some writer.kind writer.points.items holds.begun.left_are in
    let no = ap length none in
    omega arith

-- a writer with points that are left is open
pub must_be_open : {W : Type 0} (tells : Type 0) (content : List ℕ) (writer : TsmWriter W) (pushed : List KeyedPoint) → (writer.points.items ≡ [] → ⊥) → IsNew tells content writer pushed ⊎ IsOpen tells content writer pushed → IsOpen tells content writer pushed
must_be_open tells content writer pushed some either = ⊎_elim (λ (new : IsNew tells content writer pushed). absurd (some new.closed.left)) (λ holds. holds) either

-- one without is new
pub must_be_new : {W : Type 0} (tells : Type 0) (content : List ℕ) (writer : TsmWriter W) (pushed : List KeyedPoint) → writer.points.items ≡ [] → IsNew tells content writer pushed ⊎ IsOpen tells content writer pushed → IsNew tells content writer pushed
must_be_new tells content writer pushed none either = ⊎_elim (λ new. new) (λ (holds : IsOpen tells content writer pushed). absurd (open_has_some tells content writer pushed holds none)) either

-- one to which points were pushed is open, whatever is said to have been pushed
pub pushed_is_open : {W : Type 0} (tells : Type 0) (content : List ℕ) (writer : TsmWriter W) (some pushed : List KeyedPoint) → (some ≡ [] → ⊥) → IsNew tells content writer some ⊎ IsOpen tells content writer some
    → IsNew tells content writer pushed ⊎ IsOpen tells content writer pushed → IsOpen tells content writer pushed
pushed_is_open tells content writer some pushed are has either =
    must_be_open tells content writer pushed
    (⊎_elim (λ (new : IsNew tells content writer some). absurd (are new.none)) (λ (holds : IsOpen tells content writer some). open_has_some tells content writer some holds) has)
    either

-- ---- tests

not_false : (b : Bool) → not b ≡ false → b ≡ true
not_false true e = refl
not_false false e = absurd (false≢true (sym e))

pub same_key : (xs ys : List ℕ) (r : Bool) → r ≡ not (bytes_eq xs ys) → r ≡ false → xs ≡ ys
same_key xs ys r is e = (bytes_eq-Decides xs ys).0 (not_false (bytes_eq xs ys) (sym is ∙ e))

pub other_key : (xs ys : List ℕ) (r : Bool) → r ≡ not (bytes_eq xs ys) → r ≡ true → xs ≡ ys → ⊥
other_key xs ys r is e same = false≢true (sym (is ∙ ap not ((bytes_eq-Decides xs ys).1 same)) ∙ e)

pub not_none : (n : ℕ) (r : Bool) → r ≡ (n == 0) → r ≡ false → n ≡ 0 → ⊥
not_none n r is e none = false≢true (sym e ∙ is ∙ (Decides-eqb n 0).1 none)

pub on_ok_then : {T E A B : Type 0} (r : Result T E) → (A → B) → OnOk r A → OnOk r B
on_ok_then (Ok x) leads a = leads a
on_ok_then (Err e) leads a = a

pub on_ok_both : {T E A B C : Type 0} (r : Result T E) → (A → B → C) → OnOk r A → OnOk r B → OnOk r C
on_ok_both (Ok x) leads a b = leads a b
on_ok_both (Err e) leads a b = a

-- ---- the file ends

pub ends_file : {W : Type 0} (tells : Type 0) (content content' : List ℕ) (old new : TsmWriter W) (key tail : List ℕ) (pushed : List KeyedPoint)
    → IsClosed tells content old pushed → last_key None old.rows.items ≡ Some key → tail ≡ index_bytes old.rows.items ++ bytes_of_u64 old.end → (tells → content' ≡ content ++ tail)
    → new.rows.items ≡ old.rows.items → new.count ≡ old.count → IsEnded tells content' new pushed
ends_file tells content content' old new key tail pushed closed last is bytes rows count =
    let keys = closed.keys in
    let done = closed.done in
    let end : old.end ≡ index_at keys = closed.end ∙ last_place old.rows.items keys done.rows_are in
    let index : AreIndex (index_at keys) old.rows.items = record {
      some = λ none. let no : None ≡ Some key = ap (last_key None) (sym none) ∙ last in absurd cc;
      good = done.good;
      ends = last_place old.rows.items keys done.rows_are;
    } in
    record {
      keys = keys;
      done = subst (λ (r : List KeyRow). AreDone r keys) (sym rows) done;
      all = closed.all;
      count = count ∙ closed.count;
      index = subst (AreIndex (index_at keys)) (sym rows) index;
      bytes = λ told.
          bytes told
          ∙ ap (λ (l : List ℕ). l ++ tail) (closed.bytes told)
          ∙ ap (λ (l : List ℕ). header ++ all_blocks keys ++ l) is
          ∙ sym (append_assoc (header ++ all_blocks keys) (index_bytes old.rows.items) (bytes_of_u64 old.end))
          ∙ ap (λ (r : List KeyRow). header ++ all_blocks keys ++ index_bytes r ++ bytes_of_u64 old.end) done.rows_are
          ∙ ap (λ (n : ℕ). header ++ all_blocks keys ++ index_bytes (rows_of first_block keys) ++ bytes_of_u64 n) end;
    }

-- the rows that are closed are an index
pub closed_index : {W : Type 0} (tells : Type 0) (content : List ℕ) (writer : TsmWriter W) (pushed : List KeyedPoint) (key : List ℕ) → IsClosed tells content writer pushed → last_key None writer.rows.items ≡ Some key → AreIndex (end_of writer.rows.items) writer.rows.items
closed_index tells content writer pushed key closed last = record {
  some = λ none. let no : None ≡ Some key = ap (last_key None) (sym none) ∙ last in absurd cc;
  good = closed.done.good;
  ends = refl;
}

counts_same : (place : ℕ) (keys : List KeyBlocks) → map (λ row. length row.entries) (rows_of place keys) ≡ map (λ one. length one.blocks) keys
counts_same place [] = refl
counts_same place (one ∷ keys) =
    ap (λ (n : ℕ). n ∷ map (λ row. length row.entries) (rows_of (place + length (key_bytes one)) keys)) (length-entries one.kind place one.blocks)
    ∙ ap (λ (l : List ℕ). length one.blocks ∷ l) (counts_same (place + length (key_bytes one)) keys)

pub output : {W : Type 0} (tells : Type 0) (content : List ℕ) (writer : TsmWriter W) (facts : TsmFacts) (pushed : List KeyedPoint)
    → IsEnded tells content writer pushed → facts.points ≡ writer.count → facts.most_entries ≡ fold max 0 (map (λ row. length row.entries) writer.rows.items)
    → facts.index ≡ record { file = 0; rows = writer.rows.items } → IsOutput tells content facts pushed
output tells content writer facts pushed ended points most index =
    let keys = ended.keys in
    let done = ended.done in
    let are : AreKeys keys = record { held = done.held; index = subst (AreIndex (index_at keys)) done.rows_are ended.index } in
    record {
      keys = keys;
      cut = record { cut = done.cut; all = ended.all };
      are_keys = are;
      file = λ told. record { are_keys = are; spelled = sym (ended.bytes told) };
      facts_are = record {
        points = points ∙ ended.count ∙ ap length (sym ended.all);
        most_entries = most ∙ ap (λ (r : List KeyRow). fold max 0 (map (λ row. length row.entries) r)) done.rows_are ∙ ap (fold max 0) (counts_same first_block keys);
        index = index ∙ ap (λ (r : List KeyRow). record { file = 0; rows = r }) done.rows_are;
      };
    }
