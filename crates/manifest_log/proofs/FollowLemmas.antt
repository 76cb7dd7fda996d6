-- When an edit follows what records left, and which edits records are.
use Rattle.std.proofs.Common.{◌≡◌, ℕ, List, [], ◌∷◌, ◌++◌, refl, sym, ap, ◌∙◌, subst, Option, Some, None, IfSome}
use Rattle.std.specs.List.{AllByRecursion}
use Rattle.std.proofs.lemmas.List.{map-append}
use Rattle.manifest_log.specs.declared.change.Change.{Change}
use Rattle.manifest_log.specs.declared.directory.Directory.{Directory}
use Rattle.manifest_log.specs.Format.{edit_bytes, IsWritable}
use Rattle.manifest_log.specs.Edits.{IsSound, Follows, Leave, all_changed, empty}
use Rattle.manifest_log.specs.Reading.{Lead, bodies_of, MayNotFollow}
use Rattle.manifest_log.proofs.EditLemmas.{same_edit}

pub if_some_at : {T : Type 0} (P : T → Type 0) (r : Option T) (v : T) → r ≡ Some v → IfSome r P → P v
if_some_at {T} P r v is h = let Q : Option T → Type 0 = λ o. IfSome o P in subst Q is h

none_some : {T : Type 0} (x : T) → None ≡ Some x → ⊥
none_some x e = cc e

some_some : {T : Type 0} (x y : T) → Some x ≡ Some y → x ≡ y
some_some x y e = cc e

-- the body is of these changes, which can't be made
pub not_made : (directory : Directory) (body : List ℕ) (read seen : List Change) → body ≡ edit_bytes read → IsWritable read → seen ≡ read → all_changed directory seen ≡ None → MayNotFollow directory body
not_made directory body read seen found good same none next takes =
    let one : read ≡ takes.changes = same_edit read takes.changes good takes.written (sym found ∙ takes.are) in
    none_some next (sym none ∙ ap (all_changed directory) (same ∙ one) ∙ takes.follows.made)

-- it is of these, and what they leave isn't sound
pub not_sound : (directory left : Directory) (body : List ℕ) (read seen : List Change) → body ≡ edit_bytes read → IsWritable read → seen ≡ read → all_changed directory seen ≡ Some left → (IsSound left → ⊥) → MayNotFollow directory body
not_sound directory left body read seen found good same made bad next takes =
    let one : read ≡ takes.changes = same_edit read takes.changes good takes.written (sym found ∙ takes.are) in
    let there : left ≡ next = some_some left next (sym made ∙ ap (all_changed directory) (same ∙ one) ∙ takes.follows.made) in
    bad (subst IsSound (sym there) takes.follows.sound)

-- ---- one record more

leave_push : (start mid next : Directory) (edits : List (List Change)) (changes : List Change) → Leave start edits mid → Follows mid changes next → Leave start (edits ++ changes ∷ []) next
leave_push start mid next [] changes leave follows = (next, subst (λ (d : Directory). Follows d changes next) leave follows, refl)
leave_push start mid next (edit ∷ edits) changes leave follows = (leave.0, leave.1, leave_push leave.0 mid next edits changes leave.2 follows)

all_push : (edits : List (List Change)) (changes : List Change) → AllByRecursion IsWritable edits → IsWritable changes → AllByRecursion IsWritable (edits ++ changes ∷ [])
all_push [] changes all one = (one, tt)
all_push (x ∷ xs) changes all one = (all.0, all_push xs changes all.1 one)

pub lead_push : (edits : List (List Change)) (changes : List Change) (mid next : Directory) → Lead edits mid → IsWritable changes → Follows mid changes next → Lead (edits ++ changes ∷ []) next
lead_push edits changes mid next lead writable follows = record { written = all_push edits changes lead.written writable; leave = leave_push empty mid next edits changes lead.leave follows }

pub lead_none : Lead [] empty
lead_none = record { written = tt; leave = refl }

pub bodies_push : (edits : List (List Change)) (changes : List Change) → bodies_of (edits ++ changes ∷ []) ≡ bodies_of edits ++ edit_bytes changes ∷ []
bodies_push edits changes = map-append edit_bytes edits (changes ∷ [])
