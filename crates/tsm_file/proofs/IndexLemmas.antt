-- The index of a file is read in one way.
use Rattle.std.proofs.Common.{◌≡◌, ℕ, ◌+◌, ◌-◌, ◌<◌, ◌≤◌, ◌^◌, List, [], ◌++◌, length, take, drop, Result, Ok, Err, IfOk, inl, inr, refl, sym, ap, ◌∙◌, subst, arith}
use Rattle.std.proofs.lemmas.List.{append_assoc, append-nil, length-append, length-take-le, length-drop, take-append-drop, drop-drop, take_all, take_at, drop_at}
use Rattle.fixed_width.specs.Fields.{bytes_of_u64}
use Rattle.fixed_width.proofs.Fronts.{same_u64, length-u64}
use Rattle.shard_disk.specs.Directory.{bytes_at}
use Rattle.shard_disk.specs.declared.damage.Damage.{Damage}
use Rattle.tsm_format.specs.declared.row.KeyRow.{KeyRow}
use Rattle.tsm_format.specs.Rows.{AreIndex, end_of}
use Rattle.tsm_format.specs.Format.{index_bytes}
use Rattle.tsm_format.specs.Frame.{FrameOf, header}
use Rattle.tsm_format.specs.Faults.{Reads}
use Rattle.tsm_format.proofs.ReadLemmas.{one_reading}
use Rattle.point_model.specs.declared.fault.CursorFault.{CursorFault}
use Rattle.point_model.specs.declared.fault.CursorFault.TheVariants.{Fault, Damaged, Memory}
use Rattle.tsm_file.specs.ReadIndex.{Index, HasIndex, Frames, IsUnframed, ReadsFile, AnswersIndex, index_from}

-- parts of a list that has four

first_part : (a b c d : List ℕ) → take (length a) (a ++ b ++ c ++ d) ≡ a
first_part a b c d =
    let all = append_assoc (a ++ b) c d ∙ append_assoc a b (c ++ d) in
    ap (take (length a)) all ∙ take_at a (b ++ (c ++ d)) (length a) refl

last_part : (a b c d : List ℕ) (n : ℕ) → n ≡ length d → drop (length (a ++ b ++ c ++ d) - n) (a ++ b ++ c ++ d) ≡ d
last_part a b c d n is =
    let len = length-append (a ++ b ++ c) d in
    drop_at (a ++ b ++ c) d (length (a ++ b ++ c ++ d) - n) (omega arith)

third_part : (a b c d : List ℕ) (n : ℕ) → n ≡ length d → take (length (a ++ b ++ c ++ d) - n - length (a ++ b)) (drop (length (a ++ b)) (a ++ b ++ c ++ d)) ≡ c
third_part a b c d n is =
    let all = length-append (a ++ b ++ c) d in
    let part = length-append (a ++ b) c in
    let behind : drop (length (a ++ b)) (a ++ b ++ c ++ d) ≡ c ++ d = ap (drop (length (a ++ b))) (append_assoc (a ++ b) c d) ∙ drop_at (a ++ b) (c ++ d) (length (a ++ b)) refl in
    ap (take (length (a ++ b ++ c ++ d) - n - length (a ++ b))) behind ∙ take_at c d (length (a ++ b ++ c ++ d) - n - length (a ++ b)) (omega arith)

-- a list cut at three places
cut_thrice : (l : List ℕ) (i j k : ℕ) → i ≤ j → j + k ≤ length l → l ≡ take i l ++ take (j - i) (drop i l) ++ take k (drop j l) ++ drop (j + k) l
cut_thrice l i j k le fits =
    let one = take-append-drop i l in
    let two = take-append-drop (j - i) (drop i l) in
    let three = take-append-drop k (drop j l) in
    let at : drop (j - i) (drop i l) ≡ drop j l = drop-drop (j - i) i l ∙ ap (λ (n : ℕ). drop n l) (omega arith) in
    let behind : drop k (drop j l) ≡ drop (j + k) l = drop-drop k j l in
    sym one ∙ ap (λ (r : List ℕ). take i l ++ r) (sym two) ∙ sym (append_assoc (take i l) (take (j - i) (drop i l)) (drop (j - i) (drop i l)))
    ∙ ap (λ (r : List ℕ). take i l ++ take (j - i) (drop i l) ++ r) (at ∙ sym three)
    ∙ sym (append_assoc (take i l ++ take (j - i) (drop i l)) (take k (drop j l)) (drop k (drop j l)))
    ∙ ap (λ (r : List ℕ). take i l ++ take (j - i) (drop i l) ++ take k (drop j l) ++ r) behind

-- the frame says one thing
frame_once : (file len : ℕ) (head foot : List ℕ) (a b : Result ℕ Damage) → len < 2 ^ 64 → FrameOf file len head foot a → FrameOf file len head foot b → a ≡ b
frame_once file len head foot (Ok p) (Ok q) fits a b =
    let to = a.1.to in
    let to' = b.1.to in
    ap Ok (same_u64 p q [] [] (omega arith) (omega arith) (append-nil (bytes_of_u64 p) ∙ sym a.1.written ∙ b.1.written ∙ sym (append-nil (bytes_of_u64 q)))).0
frame_once file len head foot (Ok p) (Err e) fits a (inl b) = absurd (b.0 a.0)
frame_once file len head foot (Ok p) (Err e) fits a (inr b) = let to = a.1.to in absurd (b.1 p (omega arith) a.1)
frame_once file len head foot (Err d) (Ok q) fits (inl a) b = absurd (a.0 b.0)
frame_once file len head foot (Err d) (Ok q) fits (inr a) b = let to = b.1.to in absurd (a.1 q (omega arith) b.1)
frame_once file len head foot (Err d) (Err e) fits (inl a) (inl b) = ap Err (a.1 ∙ sym b.1)
frame_once file len head foot (Err d) (Err e) fits (inl a) (inr b) = absurd (a.0 b.0)
frame_once file len head foot (Err d) (Err e) fits (inr a) (inl b) = absurd (b.0 a.0)
frame_once file len head foot (Err d) (Err e) fits (inr a) (inr b) = ap Err (a.2 ∙ sym b.2)

-- a file with an index has a frame that leads to it
record IsFramed (file : ℕ) (bytes : List ℕ) (rows : List KeyRow) : Type 0 where
  pub start : ℕ
  pub frames : Frames file bytes (Ok start)
  pub reads : Reads file start (index_from bytes start) (Ok rows)

framed : (file : ℕ) (bytes : List ℕ) (rows : List KeyRow) → HasIndex bytes rows → IsFramed file bytes rows
framed file bytes rows has =
    let foot = bytes_of_u64 (end_of rows) in
    let eight = length-u64 (end_of rows) in
    let whole = has.whole in
    let start : ℕ = length (header ++ has.blocks) in
    let n : length bytes ≡ length (header ++ has.blocks ++ index_bytes rows ++ foot) = ap length whole in
    let a = length-append (header ++ has.blocks ++ index_bytes rows) foot in
    let b = length-append (header ++ has.blocks) (index_bytes rows) in
    let c = length-append header has.blocks in
    let len : length bytes - 8 ≡ length (header ++ has.blocks ++ index_bytes rows ++ foot) - 8 = omega arith in
    record {
      start = start;
      frames = record {
        long = omega arith;
        says = (
          ap (take 5) whole ∙ first_part header has.blocks (index_bytes rows) foot,
          record {
            written = ap (λ (l : List ℕ). drop (length l - 8) l) whole ∙ last_part header has.blocks (index_bytes rows) foot 8 (sym eight) ∙ ap bytes_of_u64 has.good.ends;
            from = omega arith;
            to = omega arith;
          },
        );
      };
      reads = (has.good, ap (λ (l : List ℕ). take (length l - 8 - start) (drop start l)) whole ∙ third_part header has.blocks (index_bytes rows) foot 8 (sym eight));
    }

pub same_damage : {T : Type 0} (a b : Damage) → ◌≡◌ {A = Result T CursorFault} (Err (Damaged a)) (Err (Damaged b)) → a ≡ b
same_damage a b e = cc

-- what the first and the last bytes say
pub frames_of : (file len : ℕ) (bytes head foot : List ℕ) (place : Result ℕ Damage) → len ≡ length bytes → 13 ≤ len → head ≡ bytes_at bytes 0 5 → foot ≡ bytes_at bytes (len - 8) 8 → FrameOf file len head foot place
    → Frames file bytes place
frames_of file len bytes head foot place is long first last says =
    let behind = length-drop (length bytes - 8) bytes in
    let foot' : foot ≡ drop (length bytes - 8) bytes = last ∙ ap (λ (n : ℕ). take 8 (drop (n - 8) bytes)) is ∙ take_all 8 (drop (length bytes - 8) bytes) (omega arith) in
    record {
      long = omega arith;
      says = subst (λ (n : ℕ). FrameOf file n (take 5 bytes) (drop (length bytes - 8) bytes) place) is
          (subst (λ (f : List ℕ). FrameOf file len (take 5 bytes) f place) foot' (subst (λ (h : List ℕ). FrameOf file len h foot place) first says));
    }

-- a frame and the rows that it leads to are an index
pub has_index : (file : ℕ) (bytes : List ℕ) (start : ℕ) (rows : List KeyRow) → Frames file bytes (Ok start) → Reads file start (index_from bytes start) (Ok rows) → HasIndex bytes rows
has_index file bytes start rows frames reads =
    let place = frames.says.1 in
    let from = place.from in
    let to = place.to in
    let long = frames.long in
    let len = length-take-le (start - 5) (drop 5 bytes) (let d = length-drop 5 bytes in omega arith) in
    let blocks : List ℕ = take (start - 5) (drop 5 bytes) in
    let at : start ≡ length (header ++ blocks) = let l = length-append header blocks in omega arith in
    let foot : drop (start + (length bytes - 8 - start)) bytes ≡ bytes_of_u64 (end_of rows) =
    ap (λ (n : ℕ). drop n bytes) (omega arith) ∙ place.written ∙ ap bytes_of_u64 (sym reads.0.ends) in
    record {
      blocks = blocks;
      whole = cut_thrice bytes 5 start (length bytes - 8 - start) from (omega arith)
          ∙ ap (λ (h : List ℕ). h ++ blocks ++ index_from bytes start ++ drop (start + (length bytes - 8 - start)) bytes) frames.says.0
          ∙ ap (λ (i : List ℕ). header ++ blocks ++ i ++ drop (start + (length bytes - 8 - start)) bytes) reads.1
          ∙ ap (λ (f : List ℕ). header ++ blocks ++ index_bytes rows ++ f) foot;
      good = subst (λ (n : ℕ). AreIndex n rows) at reads.0;
    }

same_start : (file : ℕ) (bytes : List ℕ) (a b : Result ℕ Damage) → length bytes < 2 ^ 64 → Frames file bytes a → Frames file bytes b → a ≡ b
same_start file bytes a b fits f g = frame_once file (length bytes) (take 5 bytes) (drop (length bytes - 8) bytes) a b fits f.says g.says

Ok-same : (a b : ℕ) → ◌≡◌ {A = Result ℕ Damage} (Ok a) (Ok b) → a ≡ b
Ok-same a b e = cc

Err-same : (a b : Damage) → ◌≡◌ {A = Result ℕ Damage} (Err a) (Err b) → a ≡ b
Err-same a b e = cc

apart : (a : ℕ) (b : Damage) → ◌≡◌ {A = Result ℕ Damage} (Ok a) (Err b) → ⊥
apart a b e = cc

not_unframed : (file : ℕ) (bytes : List ℕ) (start : ℕ) (damage : Damage) → length bytes < 2 ^ 64 → Frames file bytes (Ok start) → IsUnframed file bytes damage → ⊥
not_unframed file bytes start damage fits frames (inl short) = let long = frames.long in let few = short.0 in omega arith
not_unframed file bytes start damage fits frames (inr other) = apart start damage (same_start file bytes (Ok start) (Err damage) fits frames other)

same_index : (a b : Index) (file : ℕ) → a.file ≡ file → b.file ≡ file → a.rows ≡ b.rows → a ≡ b
same_index a b file e f rows = ap (λ (n : ℕ). record { file = n; rows = a.rows }) (e ∙ sym f) ∙ ap (λ (rs : List KeyRow). record { file = b.file; rows = rs }) rows

rows_same : (a b : List KeyRow) → ◌≡◌ {A = Result (List KeyRow) Damage} (Ok a) (Ok b) → a ≡ b
rows_same a b e = cc

no_rows : (a : List KeyRow) (d : Damage) → ◌≡◌ {A = Result (List KeyRow) Damage} (Ok a) (Err d) → ⊥
no_rows a d e = cc

damage_same : (a b : Damage) → ◌≡◌ {A = Result (List KeyRow) Damage} (Err a) (Err b) → a ≡ b
damage_same a b e = cc

index_once : (file : ℕ) (bytes : List ℕ) (a b : Index) → length bytes < 2 ^ 64 → ReadsFile file bytes (Ok a) → ReadsFile file bytes (Ok b) → a ≡ b
index_once file bytes a b fits f g =
    let one = framed file bytes a.rows f.1 in
    let other = framed file bytes b.rows g.1 in
    let start = Ok-same one.start other.start (same_start file bytes (Ok one.start) (Ok other.start) fits one.frames other.frames) in
    let reads = subst (λ (s : ℕ). Reads file s (index_from bytes s) (Ok a.rows)) start one.reads in
    same_index a b file f.0 g.0 (rows_same a.rows b.rows (one_reading file other.start (index_from bytes other.start) (Ok a.rows) (Ok b.rows) reads other.reads))

not_both : (file : ℕ) (bytes : List ℕ) (a : Index) (d : Damage) → length bytes < 2 ^ 64 → ReadsFile file bytes (Ok a) → ReadsFile file bytes (Err d) → ⊥
not_both file bytes a d fits f (inl g) = let one = framed file bytes a.rows f.1 in not_unframed file bytes one.start d fits one.frames g
not_both file bytes a d fits f (inr g) =
    let one = framed file bytes a.rows f.1 in
    let start = Ok-same one.start g.0 (same_start file bytes (Ok one.start) (Ok g.0) fits one.frames g.1) in
    let reads = subst (λ (s : ℕ). Reads file s (index_from bytes s) (Ok a.rows)) start one.reads in
    no_rows a.rows d (one_reading file g.0 (index_from bytes g.0) (Ok a.rows) (Err d) reads g.2)

short_or_framed : (file : ℕ) (bytes : List ℕ) (d e : Damage) → length bytes < 2 ^ 64 → IsUnframed file bytes d → IsUnframed file bytes e → d ≡ e
short_or_framed file bytes d e fits (inl a) (inl b) = a.1 ∙ sym b.1
short_or_framed file bytes d e fits (inl a) (inr b) = let few = a.0 in let long = b.long in absurd (omega arith)
short_or_framed file bytes d e fits (inr a) (inl b) = let few = b.0 in let long = a.long in absurd (omega arith)
short_or_framed file bytes d e fits (inr a) (inr b) = Err-same d e (same_start file bytes (Err d) (Err e) fits a b)

damage_once : (file : ℕ) (bytes : List ℕ) (d e : Damage) → length bytes < 2 ^ 64 → ReadsFile file bytes (Err d) → ReadsFile file bytes (Err e) → d ≡ e
damage_once file bytes d e fits (inl a) (inl b) = short_or_framed file bytes d e fits a b
damage_once file bytes d e fits (inl a) (inr b) = absurd (not_unframed file bytes b.0 d fits b.1 a)
damage_once file bytes d e fits (inr a) (inl b) = absurd (not_unframed file bytes a.0 e fits a.1 b)
damage_once file bytes d e fits (inr a) (inr b) =
    let start = Ok-same a.0 b.0 (same_start file bytes (Ok a.0) (Ok b.0) fits a.1 b.1) in
    let reads = subst (λ (s : ℕ). Reads file s (index_from bytes s) (Err d)) start a.2 in
    damage_same d e (one_reading file b.0 (index_from bytes b.0) (Err d) (Err e) reads b.2)

-- a file is read in one way
pub one_file : (file : ℕ) (bytes : List ℕ) (a b : Result Index Damage) → length bytes < 2 ^ 64 → ReadsFile file bytes a → ReadsFile file bytes b → a ≡ b
one_file file bytes (Ok a) (Ok b) fits f g = ap Ok (index_once file bytes a b fits f g)
one_file file bytes (Ok a) (Err e) fits f g = absurd (not_both file bytes a e fits f g)
one_file file bytes (Err d) (Ok b) fits f g = absurd (not_both file bytes b d fits g f)
one_file file bytes (Err d) (Err e) fits f g = ap Err (damage_once file bytes d e fits f g)

pub index_answers : (file : ℕ) (bytes : List ℕ) (result : Result Index CursorFault) → length bytes < 2 ^ 64 → IfOk result (λ index. ReadsFile file bytes (Ok index))
    → ((damage : Damage) → result ≡ Err (Damaged damage) → ReadsFile file bytes (Err damage)) → (answer : Result Index Damage) → ReadsFile file bytes answer → AnswersIndex result answer
index_answers file bytes (Ok index) fits found damaged answer reads = one_file file bytes answer (Ok index) fits reads found
index_answers file bytes (Err (Damaged damage)) fits found damaged answer reads = sym (one_file file bytes (Err damage) answer fits (damaged damage refl) reads)
index_answers file bytes (Err Fault) fits found damaged answer reads = tt
index_answers file bytes (Err Memory) fits found damaged answer reads = tt
