-- Records that hold series, one after another.
use Rattle.std.proofs.Common.{◌≡◌, ℕ, suc, ◌+◌, ◌<◌, List, [], ◌∷◌, ◌++◌, length, get_or, take, drop, refl, sym, ap, ◌∙◌, subst, arith, Vec}
use Rattle.std.specs.List.{AllByRecursion, IsDistinct}
use Rattle.std.proofs.lemmas.List.{append-nil, length-append, map-append, take_more, take-append-drop}
use Rattle.std.proofs.Math.Seq.{drop-cons}
use Rattle.std.specs.declared.alloc.Global.{Global}
use Rattle.shard_disk.specs.declared.damage.Why.TheVariants.{Body}
use Rattle.gate_log.specs.Damage.{bodies}
use Rattle.gate_log.specs.Records.{AllFit, spelled}
use Rattle.gate_log.specs.Following.{IsExact, Leads}
use Rattle.gate_log.proofs.FollowingLemmas.{leads_more, plain_exact}
use Rattle.series_store.specs.Format.{IsKey, record_bytes}
use Rattle.series_store.specs.Lists.{Hold, IsList, MayAdd, Takes, series_grammar}
use Rattle.series_store.specs.Reading.{MayNotFollow, StandsBehind}
use Rattle.series_store.proofs.FormatLemmas.{same_record}
use Rattle.series_store.proofs.ListLemmas.{distinct_append}

pub list_none : IsList []
unfolding IsDistinct
list_none = record { distinct = tt; few = omega arith }

-- what records hold is a list
pub hold_sound : (records : List (List ℕ)) (first last : List (List ℕ)) → IsList first → Leads series_grammar first records last → IsList last
hold_sound [] first last sound lead = subst IsList (sym lead) sound
hold_sound (body ∷ records) first last sound lead = hold_sound records lead.0 last lead.1.sound lead.2

-- and they fit their lengths
pub hold_fit : (records : List (List ℕ)) (first last : List (List ℕ)) → Leads series_grammar first records last → AllFit records
hold_fit [] first last lead = tt
hold_fit (body ∷ records) first last lead = (omega (arith, lead.1.written.short, ap length lead.1.are), hold_fit records lead.0 last lead.2)

pub list_more : (held more : List (List ℕ)) → IsList held → MayAdd held more → IsList (held ++ more)
list_more held more list may = record { distinct = distinct_append held more list.distinct may.distinct may.fresh; few = omega (arith, length-append held more, may.few) }

pub one_record_more : (records : List (List ℕ)) (held more : List (List ℕ)) → Hold records held → AllByRecursion IsKey more → MayAdd held more → Hold (records ++ record_bytes more ∷ []) (held ++ more)
one_record_more records held more hold keys may =
    leads_more series_grammar records [] held (held ++ more) (record_bytes more) hold (record {
      more = more;
      written = record { keys = keys; room = may.room; short = may.short };
      are = refl;
      behind = refl;
      sound = list_more held more (hold_sound records [] held list_none hold) may;
    })

-- a record takes one list of series behind others
pub takes_one : (before : List (List ℕ)) (body : List ℕ) (some other : List (List ℕ)) → Takes before body some → Takes before body other → some ≡ other
takes_one before body some other a b =
    a.behind ∙ ap (λ (l : List (List ℕ)). before ++ l) (same_record a.more b.more a.written b.written (sym a.are ∙ b.are)) ∙ sym b.behind

pub series_exact : IsExact series_grammar
series_exact = plain_exact Takes takes_one

-- ---- the records of a file, up to a place

-- the records so far hold these series, and the next gate stands here
pub record Folded (records : List (List ℕ)) (held : List (List ℕ)) (gate : ℕ) : Type 0 where
  pub hold : Hold records held
  pub place : gate ≡ length (spelled records)

pub folded_none : (held : List (List ℕ)) → held ≡ [] → Folded [] held 0
folded_none held none = record { hold = none; place = refl }

spelled_more : (records : List (List ℕ)) (body : List ℕ) → length (spelled (records ++ body ∷ [])) ≡ length (spelled records) + (9 + length body)
spelled_more [] body = omega (arith, ap length (append-nil body))
spelled_more (x ∷ xs) body = omega (arith, spelled_more xs body, length-append x (spelled (xs ++ body ∷ [])), length-append x (spelled xs))

bodies_more : (records : List (Vec ℕ Global)) (k : ℕ) (d : Vec ℕ Global) → k < length records → bodies (take (k + 1) records) ≡ bodies (take k records) ++ (get_or records k d).items ∷ []
bodies_more records k d within = ap bodies (take_more records k d within) ∙ map-append (λ (v : Vec ℕ Global). v.items) (take k records) (get_or records k d ∷ [])

pub folded_more : (records : List (Vec ℕ Global)) (k : ℕ) (d : Vec ℕ Global) (held held' : List (List ℕ)) (body : List ℕ) (gate gate' : ℕ) → k < length records → body ≡ (get_or records k d).items
    → Folded (bodies (take k records)) held gate → Takes held body held' → gate' ≡ gate + (9 + length body) → Folded (bodies (take (k + 1) records)) held' gate'
folded_more records k d held held' body gate gate' within here so_far takes place = record {
  hold = subst (λ (l : List (List ℕ)). Hold l held') (sym more) (leads_more series_grammar (bodies (take k records)) [] held held' body so_far.hold takes);
  place = place ∙ omega (arith, so_far.place, spelled_more (bodies (take k records)) body, ap (λ (l : List (List ℕ)). length (spelled l)) more);
}
  where
    more : bodies (take (k + 1) records) ≡ bodies (take k records) ++ body ∷ []
    more = bodies_more records k d within ∙ ap (λ (b : List ℕ). bodies (take k records) ++ b ∷ []) (sym here)

-- a record that may not follow is the one that is named
pub stands_behind : (records : List (Vec ℕ Global)) (k : ℕ) (d : Vec ℕ Global) (number : ℕ) (held : List (List ℕ)) (body : List ℕ) (gate : ℕ) → k < length records → body ≡ (get_or records k d).items
    → Folded (bodies (take k records)) held gate → MayNotFollow held body → StandsBehind (record { file = number; offset = gate; why = Body }) number (bodies records)
stands_behind records k d number held body gate within here so_far none = record {
  before = bodies (take k records);
  state = held;
  body = body;
  others = bodies (drop (suc k) records);
  parts = sym (ap bodies (take-append-drop k records)) ∙ map-append (λ (v : Vec ℕ Global). v.items) (take k records) (drop k records)
      ∙ (λ i. bodies (take k records) ++ bodies (drop-cons records k d within i)) ∙ ap (λ (b : List ℕ). bodies (take k records) ++ b ∷ bodies (drop (suc k) records)) (sym here);
  lead = so_far.hold;
  strange = (refl, none);
  file = refl;
  gate = so_far.place;
}
