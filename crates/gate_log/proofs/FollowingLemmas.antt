-- Bodies that follow one another lead to one state, and one of them is named at most.
use Rattle.std.proofs.Common.{◌≡◌, inr, ⊎_elim, ℕ, List, [], ◌∷◌, ◌++◌, length, refl, sym, ◌∙◌, ap, subst}
use Rattle.shard_disk.specs.declared.damage.Damage.{Damage}
use Rattle.shard_disk.specs.declared.damage.Why.{Why}
use Rattle.shard_disk.specs.Directory.{Directory, HasFile}
use Rattle.shard_disk.proofs.Everywhere.{file_weaker}
use Rattle.gate_log.specs.declared.log.Gate.{Gate}
use Rattle.gate_log.specs.Log.{FoundBy}
use Rattle.gate_log.specs.Records.{AllFit, IsGated, Spells, spelled}
use Rattle.gate_log.specs.Following.{Grammar, IsExact, IsFileOf, IsStrange, IsWrong, Leads, StandsBehind, plain_grammar}
use Rattle.gate_log.proofs.Unique.{found_log, gated_log, one_damage, one_log, undamaged}

head_is : (x y : List ℕ) (xs ys : List (List ℕ)) → x ∷ xs ≡ y ∷ ys → (x ≡ y) × (xs ≡ ys)
head_is x y xs ys is = (cc is, cc is)

-- a grammar is exact where a body makes one state at most and is else strange as a body
pub plain_exact : {S : Type 0} (makes : S → List ℕ → S → Type 0) → ((old : S) (body : List ℕ) (some other : S) → makes old body some → makes old body other → some ≡ other) → IsExact (plain_grammar makes)
plain_exact makes one = record {
  one = one;
  never = λ why old body new made strange. strange.1 new made;
  reason = λ some other old body a b. a.0 ∙ sym b.0;
}

module _ {S : Type 0} (grammar : Grammar S) where
  -- a file that was read is of the state that its bodies make
  pub file_read : (first last : S) (number : ℕ) (gate : Gate) (records : List (List ℕ)) (files : Directory) → AllFit records → Leads grammar first records last
      → HasFile files number (Spells records (FoundBy gate)) → HasFile files number (IsFileOf grammar first last)
  file_read first last number gate records files fit lead found =
      file_weaker number (Spells records (FoundBy gate)) (IsFileOf grammar first last) (λ bytes here. record { records = records; log = found_log gate records bytes fit here; lead = lead }) files found

  -- a strange body of it is what it is wrong by
  pub strange_read : (first : S) (damage : Damage) (number : ℕ) (gate : Gate) (records : List (List ℕ)) (files : Directory) → AllFit records → StandsBehind grammar first damage number records
      → HasFile files number (Spells records (FoundBy gate)) → HasFile files number (IsWrong grammar first damage number)
  strange_read first damage number gate records files fit stands found =
      file_weaker number (Spells records (FoundBy gate)) (IsWrong grammar first damage number) (λ bytes here. inr (record { records = records; log = found_log gate records bytes fit here; stands = stands })) files found

  -- bodies behind a closed gate are a file of the state that they make
  pub file_gated : (first last : S) (records : List (List ℕ)) (bytes : List ℕ) → AllFit records → Leads grammar first records last → IsGated records bytes → IsFileOf grammar first last bytes
  file_gated first last records bytes fit lead gated = record { records = records; log = gated_log records bytes fit gated; lead = lead }

  -- one body more
  pub leads_more : (bodies : List (List ℕ)) (first mid last : S) (body : List ℕ) → Leads grammar first bodies mid → grammar.makes mid body last → Leads grammar first (bodies ++ body ∷ []) last
  leads_more [] first mid last body lead made = (last, subst (λ (s : S). grammar.makes s body last) lead made, refl)
  leads_more (b ∷ bodies) first mid last body lead made = (lead.0, lead.1, leads_more bodies lead.0 mid last body lead.2 made)

module _ {S : Type 0} (grammar : Grammar S) (exact : IsExact grammar) where
  pub one_state : (bodies : List (List ℕ)) (first some other : S) → Leads grammar first bodies some → Leads grammar first bodies other → some ≡ other
  one_state [] first some other a b = a ∙ sym b
  one_state (body ∷ bodies) first some other a b =
      one_state bodies a.0 some other a.2 (subst (λ (s : S). Leads grammar s bodies other) (sym (exact.one first body a.0 b.0 a.1 b.1)) b.2)

  -- among bodies that lead on none is strange
  no_strange : (all before others : List (List ℕ)) (body : List ℕ) (why : Why) (first state last : S) → Leads grammar first all last → Leads grammar first before state → grammar.strange why state body → all ≡ before ++ body ∷ others → ⊥
  no_strange [] [] others body why first state last lead led strange is = cc is
  no_strange [] (b ∷ before) others body why first state last lead led strange is = cc is
  no_strange (a ∷ all) [] others body why first state last lead led strange is =
      exact.never why first body lead.0 (subst (λ (l : List ℕ). grammar.makes first l lead.0) (head_is a body all others is).0 lead.1) (subst (λ (s : S). grammar.strange why s body) led strange)
  no_strange (a ∷ all) (b ∷ before) others body why first state last lead led strange is =
      let parts = head_is a b all (before ++ body ∷ others) is in
      let same = exact.one first b lead.0 led.0 (subst (λ (l : List ℕ). grammar.makes first l lead.0) parts.0 lead.1) led.1 in
      no_strange all before others body why lead.0 state last lead.2 (subst (λ (s : S). Leads grammar s before state) (sym same) led.2) strange parts.1

  -- two strange bodies stand at one place
  one_place : (some other : List (List ℕ)) (body body' : List ℕ) (others others' : List (List ℕ)) (why why' : Why) (first state state' : S) → Leads grammar first some state → Leads grammar first other state'
      → grammar.strange why state body → grammar.strange why' state' body' → some ++ body ∷ others ≡ other ++ body' ∷ others' → (some ≡ other) × (why ≡ why')
  one_place [] [] body body' others others' why why' first state state' a b strange strange' is = (
    refl,
    exact.reason why why' first body (subst (λ (s : S). grammar.strange why s body) a strange)
        (subst (λ (l : List ℕ). grammar.strange why' first l) (sym (head_is body body' others others' is).0) (subst (λ (s : S). grammar.strange why' s body') b strange')),
  )
  one_place [] (y ∷ other) body body' others others' why why' first state state' a b strange strange' is =
      let parts = head_is body y others (other ++ body' ∷ others') is in
      absurd (exact.never why first body b.0 (subst (λ (l : List ℕ). grammar.makes first l b.0) (sym parts.0) b.1) (subst (λ (s : S). grammar.strange why s body) a strange))
  one_place (x ∷ some) [] body body' others others' why why' first state state' a b strange strange' is =
      let parts = head_is x body' (some ++ body ∷ others) others' is in
      absurd (exact.never why' first body' a.0 (subst (λ (l : List ℕ). grammar.makes first l a.0) parts.0 a.1) (subst (λ (s : S). grammar.strange why' s body') b strange'))
  one_place (x ∷ some) (y ∷ other) body body' others others' why why' first state state' a b strange strange' is =
      let parts = head_is x y (some ++ body ∷ others) (other ++ body' ∷ others') is in
      let same = exact.one first y a.0 b.0 (subst (λ (l : List ℕ). grammar.makes first l a.0) parts.0 a.1) b.1 in
      let rest = one_place some other body body' others others' why why' a.0 state state' a.2 (subst (λ (s : S). Leads grammar s other state') (sym same) b.2) strange strange' parts.1 in
      (λ i. parts.0 i ∷ rest.0 i, rest.1)

  pub one_file : (first some other : S) (bytes : List ℕ) → IsFileOf grammar first some bytes → IsFileOf grammar first other bytes → some ≡ other
  one_file first some other bytes a b =
      one_state a.records first some other a.lead (subst (λ (l : List (List ℕ)). Leads grammar first l other) (sym (one_log a.records b.records bytes a.log b.log)) b.lead)

  pub never_wrong : (first last : S) (bytes : List ℕ) (damage : Damage) (number : ℕ) → IsFileOf grammar first last bytes → IsWrong grammar first damage number bytes → ⊥
  never_wrong first last bytes damage number file wrong = ⊎_elim
      (λ damaged. undamaged file.records bytes damage number file.log damaged)
      (λ strange.
      let stands = strange.stands in
      no_strange file.records stands.before stands.others stands.body damage.why first stands.state last file.lead stands.lead stands.strange
      (one_log file.records strange.records bytes file.log strange.log ∙ stands.parts))
      wrong

  one_strange : (first : S) (bytes : List ℕ) (some other : Damage) (number : ℕ) → IsStrange grammar first some number bytes → IsStrange grammar first other number bytes → some ≡ other
  one_strange first bytes some other number a b =
      let s = a.stands in
      let t = b.stands in
      let place = one_place s.before t.before s.body t.body s.others t.others some.why other.why first s.state t.state s.lead t.lead s.strange t.strange
      (sym s.parts ∙ one_log a.records b.records bytes a.log b.log ∙ t.parts) in
      let file = s.file ∙ sym t.file in
      let gate = s.gate ∙ ap (λ (l : List (List ℕ)). length (spelled l)) place.0 ∙ sym t.gate in
      λ i. record { file = file i; offset = gate i; why = place.1 i }

  pub one_wrong : (first : S) (bytes : List ℕ) (some other : Damage) (number : ℕ) → IsWrong grammar first some number bytes → IsWrong grammar first other number bytes → some ≡ other
  one_wrong first bytes some other number a b = ⊎_elim
      (λ damaged. ⊎_elim (λ damaged'. one_damage bytes some other number damaged damaged') (λ strange. absurd (undamaged strange.records bytes some number strange.log damaged)) b)
      (λ strange. ⊎_elim (λ damaged. absurd (undamaged strange.records bytes other number strange.log damaged)) (λ strange'. one_strange first bytes some other number strange strange') b)
      a
