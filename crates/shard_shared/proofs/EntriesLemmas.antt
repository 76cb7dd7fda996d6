-- Entries behind one another, and what a client has of an engine.
use Rattle.std.proofs.Common.{◌≡◌, ◌∙◌, ℕ, zero, suc, ◌+◌, ◌-◌, ◌<◌, ◌≤◌, max, List, [], ◌∷◌, ◌++◌, length, length-append, append-nil, append_assoc, map, replicate, refl, sym, ap, arith, Contains}
use Rattle.std.specs.declared.snapshot.Snapshot.{Snapshot}
use Rattle.history_turn.specs.Owned.{IsAmong, SameChange, weigh}
use Rattle.history_turn.proofs.OwnedLemmas.{weigh-append}
use Rattle.point_model.specs.declared.entry.Entry.{Entry}
use Rattle.store_trait.specs.Calls.View.{without}
use Rattle.shard_state.specs.History.{Attempt, Made}
use Rattle.shard_calls.specs.Attempts.{entry_tried}
use Rattle.shard_shared.specs.Entries.{AreFew, entries_in, faults_lent, lent_by, made_by, most_found, refusals_in, tried_in, tried_lent, views_lent, without_view}
use Rattle.shard_shared.specs.declared.engine.Entered.{Entered}
use Rattle.shard_shared.specs.declared.engine.Lent.{Lent}
use Rattle.shard_shared.specs.declared.engine.Lent.TheVariants.{View, Fault, Found}
use Rattle.shard_shared.specs.declared.engine.Refusal.{Refusal}

-- Entries.

pub made_by-append : (first second : List Entered) → made_by (first ++ second) ≡ made_by first ++ made_by second
made_by-append [] second = refl
made_by-append (one ∷ first) second = let m : Made = record { entry = one.entry; moment = one.moment } in ap (λ (ms : List Made). m ∷ ms) (made_by-append first second)

pub entries_in-append : (first second : List Entered) → entries_in (first ++ second) ≡ entries_in first ++ entries_in second
entries_in-append [] second = refl
entries_in-append (one ∷ first) second = ap (λ (es : List Entry). one.entry ∷ es) (entries_in-append first second)

pub as_many : (entries : List Entered) → length (entries_in entries) ≡ length entries
as_many [] = refl
as_many (entry ∷ entries) = let more = as_many entries in omega (arith, more)

-- Loans.

behind : (a b x y : ℕ) → x ≡ b + y → a + x ≡ b + (a + y)
behind a b x y is = omega (arith, is)

pub weigh-lent : (weight : Lent → ℕ) (views faults : ℕ) (counts : List Refusal)
    → weigh weight (lent_by views faults counts) ≡ weigh weight (replicate views View) + (weigh weight (replicate faults Fault) + weigh weight (map Found counts))
weigh-lent weight views faults counts =
    weigh-append weight (replicate views View) (replicate faults Fault ++ map Found counts)
    ∙ ap (λ (n : ℕ). weigh weight (replicate views View) + n) (weigh-append weight (replicate faults Fault) (map Found counts))

one_more : (weight : Lent → ℕ) (loan : Lent) (count : ℕ) → weigh weight (replicate (count + 1) loan) ≡ weight loan + weigh weight (replicate count loan)
one_more weight loan count = let one : count + 1 ≡ suc count = omega arith in ap (λ (n : ℕ). weigh weight (replicate n loan)) one

found_more : (weight : Lent → ℕ) (counts : List Refusal) (count : Refusal) → weigh weight (map Found (counts ++ count ∷ [])) ≡ weight (Found count) + weigh weight (map Found counts)
found_more weight [] count = refl
found_more weight (first ∷ counts) count =
    behind (weight (Found first)) (weight (Found count)) (weigh weight (map Found (counts ++ count ∷ []))) (weigh weight (map Found counts)) (found_more weight counts count)

pub weigh-without : (weight : Lent → ℕ) (loans : List Lent) (n : ℕ) → Contains (views_lent loans) n → weigh weight loans ≡ weight View + weigh weight (without_view loans)
weigh-without weight [] n at = absurd (omega (arith, at.1))
weigh-without weight (View ∷ loans) n at = refl
weigh-without weight (Fault ∷ loans) n at = behind (weight Fault) (weight View) (weigh weight loans) (weigh weight (without_view loans)) (weigh-without weight loans n at)
weigh-without weight (Found count ∷ loans) n at = behind (weight (Found count)) (weight View) (weigh weight loans) (weigh weight (without_view loans)) (weigh-without weight loans n at)

-- 1 for a view
abbrev counted : Lent → ℕ
counted View = 1
counted Fault = 0
counted (Found count) = 0

no_faults : (faults : ℕ) → weigh counted (replicate faults Fault) ≡ 0
no_faults zero = refl
no_faults (suc faults) = let more : weigh counted (replicate faults Fault) ≡ 0 = no_faults faults in omega (arith, more)

no_counts : (counts : List Refusal) → weigh counted (map Found counts) ≡ 0
no_counts [] = refl
no_counts (count ∷ counts) = let more : weigh counted (map Found counts) ≡ 0 = no_counts counts in omega (arith, more)

views_alone : (views : ℕ) → weigh counted (replicate views View) ≡ views
views_alone zero = refl
views_alone (suc views) = let more : weigh counted (replicate views View) ≡ views = views_alone views in omega (arith, more)

all_views : (views faults : ℕ) (counts : List Refusal) → weigh counted (lent_by views faults counts) ≡ views
all_views views faults counts =
    let whole = weigh-lent counted views faults counts in
    let a = views_alone views in
    let b = no_faults faults in
    let c = no_counts counts in
    omega (arith, whole, a, b, c)

-- a client's view is one of the engine's
pub view_out : (views faults : ℕ) (counts : List Refusal) (n : ℕ) (mine : List Lent) → Contains (views_lent mine) n → IsAmong mine (lent_by views faults counts) → 0 < views
view_out views faults counts n mine at few =
    let some : weigh counted mine ≡ 1 + weigh counted (without_view mine) = weigh-without counted mine n at in
    let most = few.most counted in
    let all = all_views views faults counts in
    omega (arith, some, most, all)

same_lent : (weight : Lent → ℕ) (views faults : ℕ) (counts : List Refusal) (left now : ℕ) (new : List Refusal) → left ≡ views → now ≡ faults → new ≡ counts
    → weigh weight (lent_by left now new) ≡ weigh weight (lent_by views faults counts)
same_lent weight views faults counts left now new same none equal =
    ap (λ (n : ℕ). weigh weight (lent_by n now new)) same ∙ ap (λ (n : ℕ). weigh weight (lent_by views n new)) none ∙ ap (λ (l : List Refusal). weigh weight (lent_by views faults l)) equal

-- what each answer does to the loans of the engine and of the client
pub change_same : (views faults : ℕ) (counts : List Refusal) (left now : ℕ) (new : List Refusal) (mine : List Lent) → left ≡ views → now ≡ faults → new ≡ counts
    → SameChange (lent_by views faults counts) (lent_by left now new) mine mine
change_same views faults counts left now new mine same none equal =
    record { same = λ weight. let all = same_lent weight views faults counts left now new same none equal in omega (arith, all) }

pub change_fault : (views faults : ℕ) (counts : List Refusal) (left now : ℕ) (new : List Refusal) (mine : List Lent) → left ≡ views → now ≡ faults + 1 → new ≡ counts
    → SameChange (lent_by views faults counts) (lent_by left now new) mine (Fault ∷ mine)
change_fault views faults counts left now new mine same one equal =
    record {
      same = λ weight.
          let all = same_lent weight views (faults + 1) counts left now new same one equal in
          let a = weigh-lent weight views (faults + 1) counts in
          let b = weigh-lent weight views faults counts in
          let more = one_more weight Fault faults in
          omega (arith, all, a, b, more);
    }

pub change_found : (views faults : ℕ) (counts : List Refusal) (left now : ℕ) (new : List Refusal) (count : Refusal) (mine : List Lent) → left ≡ views → now ≡ faults → new ≡ counts ++ count ∷ []
    → SameChange (lent_by views faults counts) (lent_by left now new) mine (Found count ∷ mine)
change_found views faults counts left now new count mine same none equal =
    record {
      same = λ weight.
          let all = same_lent weight views faults (counts ++ count ∷ []) left now new same none equal in
          let a = weigh-lent weight views faults (counts ++ count ∷ []) in
          let b = weigh-lent weight views faults counts in
          let more = found_more weight counts count in
          omega (arith, all, a, b, more);
    }

pub change_failed : (views faults : ℕ) (counts : List Refusal) (left now : ℕ) (new : List Refusal) (count : Refusal) (mine : List Lent) → left ≡ views → now ≡ faults + 1 → new ≡ counts ++ count ∷ []
    → SameChange (lent_by views faults counts) (lent_by left now new) mine (Fault ∷ Found count ∷ mine)
change_failed views faults counts left now new count mine same one equal =
    record {
      same = λ weight.
          let all = same_lent weight views (faults + 1) (counts ++ count ∷ []) left now new same one equal in
          let a = weigh-lent weight views (faults + 1) (counts ++ count ∷ []) in
          let b = weigh-lent weight views faults counts in
          let fault = one_more weight Fault faults in
          let more = found_more weight counts count in
          omega (arith, all, a, b, fault, more);
    }

pub change_view : (views faults : ℕ) (counts : List Refusal) (left now : ℕ) (new : List Refusal) (mine : List Lent) → left ≡ views + 1 → now ≡ faults → new ≡ counts
    → SameChange (lent_by views faults counts) (lent_by left now new) mine (View ∷ mine)
change_view views faults counts left now new mine one none equal =
    record {
      same = λ weight.
          let all = same_lent weight (views + 1) faults counts left now new one none equal in
          let a = weigh-lent weight (views + 1) faults counts in
          let b = weigh-lent weight views faults counts in
          let more = one_more weight View views in
          omega (arith, all, a, b, more);
    }

pub change_ended : (views faults : ℕ) (counts : List Refusal) (left now : ℕ) (new : List Refusal) (n : ℕ) (mine : List Lent) → views ≡ left + 1 → now ≡ faults → new ≡ counts → Contains (views_lent mine) n
    → SameChange (lent_by views faults counts) (lent_by left now new) mine (without_view mine)
change_ended views faults counts left now new n mine one none equal at =
    record {
      same = λ weight.
          let all : weigh weight (lent_by views faults counts) ≡ weigh weight (lent_by (left + 1) now new) = sym (same_lent weight views faults counts (left + 1) now new (sym one) none equal) in
          let a = weigh-lent weight (left + 1) now new in
          let b = weigh-lent weight left now new in
          let more = one_more weight View left in
          let less = weigh-without weight mine n at in
          omega (arith, all, a, b, more, less);
    }

pub views-without : (loans : List Lent) → views_lent (without_view loans) ≡ without 0 (views_lent loans)
views-without [] = refl
views-without (View ∷ loans) = refl
views-without (Fault ∷ loans) = views-without loans
views-without (Found count ∷ loans) = views-without loans

pub faults-without : (loans : List Lent) → faults_lent (without_view loans) ≡ faults_lent loans
faults-without [] = refl
faults-without (View ∷ loans) = refl
faults-without (Fault ∷ loans) = ap (λ (n : ℕ). n + 1) (faults-without loans)
faults-without (Found count ∷ loans) = faults-without loans

pub found-without : (loans : List Lent) → most_found (without_view loans) ≡ most_found loans
found-without [] = refl
found-without (View ∷ loans) = refl
found-without (Fault ∷ loans) = found-without loans
found-without (Found count ∷ loans) = ap (λ (n : ℕ). max count.series n) (found-without loans)

pub tried-without : (loans : List Lent) → tried_lent (without_view loans) ≡ tried_lent loans
tried-without [] = refl
tried-without (View ∷ loans) = refl
tried-without (Fault ∷ loans) = tried-without loans
tried-without (Found count ∷ loans) = ap (λ (l : List Attempt). entry_tried count.client count.number count.tried ++ l) (tried-without loans)

-- Refusals that were noted.

refusals-last : (notes : List (Snapshot Refusal)) (note : Snapshot Refusal) → refusals_in (notes ++ note ∷ []) ≡ refusals_in notes ++ note.value ∷ []
refusals-last [] note = refl
refusals-last (first ∷ notes) note = ap (λ (rs : List Refusal). first.value ∷ rs) (refusals-last notes note)

pub noted_refusals : (old new : List (Snapshot Refusal)) (note : Snapshot Refusal) (refusal : Refusal) → new ≡ old ++ note ∷ [] → note.value ≡ refusal → refusals_in new ≡ refusals_in old ++ refusal ∷ []
noted_refusals old new note refusal put value =
    ap (λ (l : List (Snapshot Refusal)). refusals_in l) put ∙ refusals-last old note ∙ ap (λ (r : Refusal). refusals_in old ++ r ∷ []) value

tried-last : (refusals : List Refusal) (refusal : Refusal) → tried_in (refusals ++ refusal ∷ []) ≡ tried_in refusals ++ entry_tried refusal.client refusal.number refusal.tried
tried-last [] refusal = append-nil (entry_tried refusal.client refusal.number refusal.tried)
tried-last (first ∷ refusals) refusal =
    ap (λ (l : List Attempt). entry_tried first.client first.number first.tried ++ l) (tried-last refusals refusal)
    ∙ sym (append_assoc (entry_tried first.client first.number first.tried) (tried_in refusals) (entry_tried refusal.client refusal.number refusal.tried))

pub tried_more : (old new : List (Snapshot Refusal)) (note : Snapshot Refusal) (refusal : Refusal) → new ≡ old ++ note ∷ [] → note.value ≡ refusal
    → tried_in (refusals_in new) ≡ tried_in (refusals_in old) ++ entry_tried refusal.client refusal.number refusal.tried
tried_more old new note refusal put value = ap (λ (rs : List Refusal). tried_in rs) (noted_refusals old new note refusal put value) ∙ tried-last (refusals_in old) refusal

pub few_grown : (counts : List Refusal) (keys more new : List (List ℕ)) → AreFew counts keys → new ≡ keys ++ more → AreFew counts new
few_grown [] keys more new few is = tt
few_grown (count ∷ counts) keys more new few is =
    ((let one = few.0 in let len = ap length is in let sum = length-append keys more in omega (arith, one, len, sum)), few_grown counts keys more new few.1 is)

pub few_more : (counts : List Refusal) (count : Refusal) (keys : List (List ℕ)) → AreFew counts keys → count.series ≤ length keys → AreFew (counts ++ count ∷ []) keys
few_more [] count keys few one = (one, tt)
few_more (first ∷ counts) count keys few one = (few.0, few_more counts count keys few.1 one)

-- how far a count is above this one
abbrev above : ℕ → Lent → ℕ
above limit View = 0
above limit Fault = 0
above limit (Found count) = count.series - limit

none_above : (limit count : ℕ) (loan : Lent) → above limit loan ≡ 0 → weigh (above limit) (replicate count loan) ≡ 0
none_above limit zero loan none = refl
none_above limit (suc count) loan none = let more : weigh (above limit) (replicate count loan) ≡ 0 = none_above limit count loan none in omega (arith, none, more)

few_above : (counts : List Refusal) (keys : List (List ℕ)) → AreFew counts keys → weigh (above (length keys)) (map Found counts) ≡ 0
few_above [] keys few = refl
few_above (count ∷ counts) keys few =
    let one = few.0 in let more : weigh (above (length keys)) (map Found counts) ≡ 0 = few_above counts keys few.1 in omega (arith, one, more)

most_below : (limit : ℕ) (loans : List Lent) → weigh (above limit) loans ≡ 0 → most_found loans ≤ limit
most_below limit [] none = omega arith
most_below limit (View ∷ loans) none = most_below limit loans (omega (arith, none))
most_below limit (Fault ∷ loans) none = most_below limit loans (omega (arith, none))
most_below limit (Found count ∷ loans) none =
    let more : most_found loans ≤ limit = most_below limit loans (omega (arith, none)) in
    omega (arith, none, more)

-- a client's counts are some of the engine's, so none is above the number of series that are held
pub found_few : (views faults : ℕ) (counts : List Refusal) (keys : List (List ℕ)) (mine : List Lent) → AreFew counts keys → IsAmong mine (lent_by views faults counts) → most_found mine ≤ length keys
found_few views faults counts keys mine few among =
    let most = among.most (above (length keys)) in
    let whole = weigh-lent (above (length keys)) views faults counts in
    let a = none_above (length keys) views View refl in
    let b = none_above (length keys) faults Fault refl in
    let c = few_above counts keys few in
    most_below (length keys) mine (omega (arith, most, whole, a, b, c))
