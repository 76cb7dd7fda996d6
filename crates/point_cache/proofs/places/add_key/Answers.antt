use Rattle.std.proofs.Common.{◌≡◌, ℕ, List, [], ◌∷◌, ◌++◌, length, None, nat_eq, inr, sym, ap, ◌∙◌, subst, Vec, Global}
use Rattle.std.specs.Cmp.Lexicographic.{pointwise}
use Rattle.indexmap.specs.IndexMap.{get_by}
use Rattle.indexmap.proofs.CallerLemmas.{insert_entry-new}
use Rattle.point_cache.specs.Staged.{Entry, entries_of, no_rows}
use Rattle.point_cache.proofs.EntryLemmas.{entries_of-append, length-entries_of}
use Rattle.point_cache.proofs.places.add_key.Goals as goal

pub returns-clause-adds : goal.returns-clause-adds
returns-clause-adds c =
    let slots = c.args.map.now.entries in
    let key = c.in_ok-key.key in
    let own = c.in_ok-key.ensures.items in
    let absent = subst (λ (k : List ℕ). get_by (λ (v : Vec ℕ Global). pointwise nat_eq k v.items) c.args.map.now ≡ None) (sym own) c.requires in
    let both : (key.items, c.new.result) ≡ (c.args.key.now, no_rows) = (λ i. (own i, c.new.ensures i)) in
    inr (ap entries_of (c.in_ok-insert.ensures.entries ∙ insert_entry-new _ c.args.map.now key c.new.result absent) ∙ entries_of-append slots ((key, c.new.result) ∷ []) ∙ ap (λ (e : Entry). entries_of slots ++ e ∷ []) both)

pub returns-clause-found : goal.returns-clause-found
returns-clause-found c =
    let slots = c.args.map.now.entries in
    let key = c.in_ok-key.key in
    let own = c.in_ok-key.ensures.items in
    let absent = subst (λ (k : List ℕ). get_by (λ (v : Vec ℕ Global). pointwise nat_eq k v.items) c.args.map.now ≡ None) (sym own) c.requires in
    let both : (key.items, c.new.result) ≡ (c.args.key.now, no_rows) = (λ i. (own i, c.new.ensures i)) in
    let is : entries_of c.insert.new.self.entries ≡ entries_of slots ++ (c.args.key.now, no_rows) ∷ [] = ap entries_of (c.in_ok-insert.ensures.entries ∙ insert_entry-new _ c.args.map.now key c.new.result absent) ∙ entries_of-append slots ((key, c.new.result) ∷ []) ∙ ap (λ (e : Entry). entries_of slots ++ e ∷ []) both in
    let at : c.len-place.result ≡ length (entries_of slots) = c.len-place.ensures.len ∙ sym (length-entries_of slots) in
    inr (is, at)
