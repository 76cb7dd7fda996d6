-- Parts of a table's lists: rows that are marked one after another, and the files that are free.
use Rattle.std.proofs.Common.{◌≡◌, ℕ, suc, ◌+◌, ◌<◌, ◌≤◌, Bool, List, [], ◌∷◌, ◌++◌, length, get_or, take, drop, map, sym, ap, ◌∙◌, arith, append_assoc, length-append, Option, Some, None, slice_get, set}
use Rattle.std.proofs.Math.Seq.{drop-cons}
use Rattle.std.proofs.lemmas.List.{length-take-le, length-map, length-drop, get_or-drop, get_or_at, set_at, map_more, drop_all}
use Rattle.std.proofs.lemmas.Option.{slice_get-get_or}
use Rattle.file_table.specs.declared.row.FileRow.{FileRow}
use Rattle.file_table.specs.declared.condemned.Condemned.{Condemned}
use Rattle.file_table.specs.Files.{free_of}
use Rattle.file_table.specs.Calls.{marked}

abbrev mark : Bool → FileRow → FileRow
mark busy row = record row { busy = busy }

-- one row more is marked
pub marked_more : (first n k : ℕ) (busy : Bool) (xs ys : List FileRow) (x : FileRow) → k ≡ first + n → k < length xs → ys ≡ marked first n busy xs → x ≡ get_or ys k x → set ys k (record x { busy = busy }) ≡ marked first (n + 1) busy xs
marked_more first n k busy xs ys x at within so_far is =
    let f = mark busy in
    let front : List FileRow = take first xs ++ map f (take n (drop first xs)) in
    let row : FileRow = get_or xs k x in
    let rest : List FileRow = drop (suc k) xs in
    let size : length front ≡ k =
    length-append (take first xs) (map f (take n (drop first xs)))
    ∙ omega (arith, at, within, length-take-le first xs (omega (arith, at, within)), length-map (take n (drop first xs)) f, length-take-le n (drop first xs) (omega (arith, length-drop first xs, at, within)), length-drop first xs) in
    let split : ys ≡ front ++ row ∷ rest =
    so_far ∙ sym (append_assoc (take first xs) (map f (take n (drop first xs))) (drop (first + n) xs))
    ∙ ap (λ (l : List FileRow). front ++ l) (ap (λ (m : ℕ). drop m xs) (sym at) ∙ drop-cons xs k x within) in
    let found : x ≡ row = is ∙ ap (λ (l : List FileRow). get_or l k x) split ∙ get_or_at front row rest x k size in
    let put : set ys k (f x) ≡ front ++ f row ∷ rest = ap (λ (l : List FileRow). set l k (f x)) split ∙ set_at front row rest (f x) k size ∙ ap (λ (r : FileRow). front ++ f r ∷ rest) found in
    let here : get_or (drop first xs) n x ≡ row = get_or-drop first xs n x ∙ ap (λ (m : ℕ). get_or xs m x) (sym at) in
    let longer : map f (take (n + 1) (drop first xs)) ≡ map f (take n (drop first xs)) ++ f row ∷ [] =
    map_more f (drop first xs) n x (omega (arith, length-drop first xs, at, within)) ∙ ap (λ (r : FileRow). map f (take n (drop first xs)) ++ f r ∷ []) here in
    let same_end : suc k ≡ first + (n + 1) = omega (arith, at) in
    put
    ∙ append_assoc (take first xs) (map f (take n (drop first xs))) (f row ∷ rest)
    ∙ ap (λ (l : List FileRow). take first xs ++ l)
    (sym (append_assoc (map f (take n (drop first xs))) (f row ∷ []) rest)
    ∙ ap (λ (l : List FileRow). l ++ rest) (sym longer)
    ∙ ap (λ (m : ℕ). map f (take (n + 1) (drop first xs)) ++ drop m xs) same_end)

-- no file is free of no file
pub none_free : (files : List Condemned) (i left : ℕ) (found : Option ℕ) (k : ℕ) → length files ≤ i → slice_get (free_of (drop i files)) left ≡ found → found ≡ slice_get (free_of files) k → k < length (free_of files) → ⊥
none_free files i left found k past so_far same within =
    let none : slice_get (free_of (drop i files)) left ≡ None = ap (λ (l : List Condemned). slice_get (free_of l) left) (drop_all i files past) in
    let some : slice_get (free_of files) k ≡ Some (get_or (free_of files) k 0) = slice_get-get_or (free_of files) k 0 within in
    cc (none, some, so_far, same)
