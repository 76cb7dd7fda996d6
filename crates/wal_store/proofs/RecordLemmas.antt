-- A record is read of bytes in one way.
use Rattle.std.proofs.Common.{◌≡◌, ℕ, ◌^◌, ◌<◌, List, ◌++◌, length, sym, ap, subst, ◌∙◌, arith}
use Rattle.std.proofs.lemmas.List.{length-append}
use Rattle.fixed_width.specs.Fields.{bytes_of_u64}
use Rattle.fixed_width.proofs.Fronts.{length-u64, same_u64}
use Rattle.point_model.specs.declared.entry.Entry.{Entry}
use Rattle.wal_store.specs.Segments.{SpellsRecord}
use Rattle.wal_store.specs.Spelling.{Spells}
use Rattle.wal_store.proofs.EntryLemmas.{same_entry}

pub no_number : (bytes : List ℕ) → length bytes < 8 → (number : ℕ) (entry : Entry) → SpellsRecord number entry bytes → ⊥
no_number bytes short number entry is = omega (arith, short, ap length is.whole, length-append (bytes_of_u64 number) is.body, length-u64 number)

behind_number : (bytes body : List ℕ) (n : ℕ) → n < 2 ^ 64 → bytes ≡ bytes_of_u64 n ++ body → (number : ℕ) (entry : Entry) → (is : SpellsRecord number entry bytes) → (n ≡ number) × (body ≡ is.body)
behind_number bytes body n fits found number entry is = same_u64 n number body is.body fits (omega (arith, is.most)) (sym found ∙ is.whole)

-- a body is a record of one entry with one number
pub same_record : (n m : ℕ) (e f : Entry) (bytes : List ℕ) → SpellsRecord n e bytes → SpellsRecord m f bytes → (n ≡ m) × (e ≡ f)
same_record n m e f bytes a b =
    let both = behind_number bytes a.body n (omega (arith, a.most)) a.whole m f b in
    (both.0, same_entry e f b.body (subst (Spells e) both.1 a.spells) b.spells)

pub too_large : (bytes body : List ℕ) (n : ℕ) → n < 2 ^ 64 → bytes ≡ bytes_of_u64 n ++ body → 9223372036854775807 < n → (number : ℕ) (entry : Entry) → SpellsRecord number entry bytes → ⊥
too_large bytes body n fits found large number entry is = omega (arith, large, (behind_number bytes body n fits found number entry is).0, is.most)

pub no_entry : (bytes body : List ℕ) (n : ℕ) → n < 2 ^ 64 → bytes ≡ bytes_of_u64 n ++ body → ((entry : Entry) → Spells entry body → ⊥) → (number : ℕ) (entry : Entry) → SpellsRecord number entry bytes → ⊥
no_entry bytes body n fits found none number entry is = none entry (subst (Spells entry) (sym (behind_number bytes body n fits found number entry is).1) is.spells)
