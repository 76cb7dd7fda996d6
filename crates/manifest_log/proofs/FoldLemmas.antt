-- The records of a manifest, one after another.
use Rattle.std.proofs.Common.{◌≡◌, ℕ, suc, ◌+◌, ◌<◌, List, [], ◌∷◌, ◌++◌, length, get_or, take, drop, refl, sym, ap, ◌∙◌, subst, arith, Vec}
use Rattle.std.proofs.lemmas.List.{append-nil, length-append, map-append, take_more, take-append-drop}
use Rattle.std.proofs.Math.Seq.{drop-cons}
use Rattle.std.specs.declared.alloc.Global.{Global}
use Rattle.shard_disk.specs.declared.damage.Why.TheVariants.{Body}
use Rattle.gate_log.specs.Damage.{bodies}
use Rattle.gate_log.specs.Records.{spelled}
use Rattle.manifest_log.specs.declared.change.Change.{Change}
use Rattle.manifest_log.specs.declared.directory.Directory.{Directory}
use Rattle.gate_log.specs.Following.{Leads}
use Rattle.manifest_log.specs.Format.{edit_bytes}
use Rattle.manifest_log.specs.Edits.{empty}
use Rattle.manifest_log.specs.Reading.{Lead, bodies_of, MayNotFollow, StandsBehind, Takes, manifest_grammar}
use Rattle.manifest_log.proofs.OnceLemmas.{lead_bodies}
use Rattle.manifest_log.proofs.FollowLemmas.{lead_push, lead_none, bodies_push}

-- these records are edits that leave the directory, and the next gate stands here
pub record Folded (records : List (List ℕ)) (directory : Directory) (gate : ℕ) : Type 0 where
  pub edits : List (List Change)
  pub are : records ≡ bodies_of edits
  pub lead : Lead edits directory
  pub place : gate ≡ length (spelled records)

pub folded_none : Folded [] empty 0
folded_none = record { edits = []; are = refl; lead = lead_none; place = refl }

spelled_more : (records : List (List ℕ)) (body : List ℕ) → length (spelled (records ++ body ∷ [])) ≡ length (spelled records) + (9 + length body)
spelled_more [] body = omega (arith, ap length (append-nil body))
spelled_more (x ∷ xs) body = omega (arith, spelled_more xs body, length-append x (spelled (xs ++ body ∷ [])), length-append x (spelled xs))

bodies_more : (records : List (Vec ℕ Global)) (k : ℕ) (d : Vec ℕ Global) → k < length records → bodies (take (k + 1) records) ≡ bodies (take k records) ++ (get_or records k d).items ∷ []
bodies_more records k d within = ap bodies (take_more records k d within) ∙ map-append (λ (v : Vec ℕ Global). v.items) (take k records) (get_or records k d ∷ [])

pub folded_more : (records : List (Vec ℕ Global)) (k : ℕ) (d : Vec ℕ Global) (directory next : Directory) (body : List ℕ) (gate gate' : ℕ) → k < length records → body ≡ (get_or records k d).items
    → Folded (bodies (take k records)) directory gate → Takes directory body next → gate' ≡ gate + (9 + length body) → Folded (bodies (take (k + 1) records)) next gate'
folded_more records k d directory next body gate gate' within here so_far takes place = record {
  edits = so_far.edits ++ takes.changes ∷ [];
  are = all ∙ ap (λ (l : List (List ℕ)). l ++ edit_bytes takes.changes ∷ []) so_far.are ∙ sym (bodies_push so_far.edits takes.changes);
  lead = lead_push so_far.edits takes.changes directory next so_far.lead takes.written takes.follows;
  place = place ∙ omega (arith, so_far.place, spelled_more (bodies (take k records)) body, ap (λ (l : List (List ℕ)). length (spelled l)) more);
}
  where
    more : bodies (take (k + 1) records) ≡ bodies (take k records) ++ body ∷ []
    more = bodies_more records k d within ∙ ap (λ (b : List ℕ). bodies (take k records) ++ b ∷ []) (sym here)

    all : bodies (take (k + 1) records) ≡ bodies (take k records) ++ edit_bytes takes.changes ∷ []
    all = more ∙ ap (λ (b : List ℕ). bodies (take k records) ++ b ∷ []) takes.are

-- a record that may not follow is the one that is named
pub stands_behind : (records : List (Vec ℕ Global)) (k : ℕ) (d : Vec ℕ Global) (directory : Directory) (body : List ℕ) (gate : ℕ) → k < length records → body ≡ (get_or records k d).items
    → Folded (bodies (take k records)) directory gate → MayNotFollow directory body → StandsBehind (record { file = 0; offset = gate; why = Body }) (bodies records)
stands_behind records k d directory body gate within here so_far none = record {
  before = bodies (take k records);
  state = directory;
  body = body;
  others = bodies (drop (suc k) records);
  parts = sym (ap bodies (take-append-drop k records)) ∙ map-append (λ (v : Vec ℕ Global). v.items) (take k records) (drop k records)
      ∙ (λ i. bodies (take k records) ++ bodies (drop-cons records k d within i)) ∙ ap (λ (b : List ℕ). bodies (take k records) ++ b ∷ bodies (drop (suc k) records)) (sym here);
  lead = subst (λ (l : List (List ℕ)). Leads manifest_grammar empty l directory) (sym so_far.are) (lead_bodies so_far.edits empty directory so_far.lead.written so_far.lead.leave);
  strange = (refl, none);
  file = refl;
  gate = so_far.place;
}
