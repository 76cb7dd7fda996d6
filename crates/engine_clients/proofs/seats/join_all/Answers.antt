-- The pass of one client more is taken in.
use Rattle.std.proofs.Common.{◌≡◌, ℕ, List, length, take, Option, Some, slice_index_or, slice_set, refl, sym, ap, ◌∙◌, subst, arith}
use Rattle.std.proofs.lemmas.List.{take_all}
use Rattle.engine_clients.specs.Seats.{Served, Seat, unseated, IsOfTurn, JoinsAll}
use Rattle.engine_clients.proofs.SeatLemmas.{changed, changed_next, changed_more, changed_all, take_next, joins_none, joins_more, some_of}
use Rattle.engine_clients.proofs.seats.join_all.Goals as goal

pub loop-k-init : goal.loop-k-init
loop-k-init g c = (joins_none c.args.first.now c.requires.without_turn, refl, omega arith)

pub unseat-pass-requires-clause-seated : goal.unseat-pass-requires-clause-seated
unseat-pass-requires-clause-seated g c = λ κs live.
    let olds = c.args.clients.now in
    let k = c.loop-k.k in
    let d = c.index-clients-k.result in
    let was = ap (λ (l : List (Served g.row.D.Denot g.row.S.Denot g.row.K.Denot g.row.C.Denot)). slice_index_or l k d) c.loop-k.invariant.1 ∙ changed_next unseated k olds d in
    rw was (some_of c.args.turn.now (slice_index_or olds k d).pass (c.requires.seated k d c.loop-k-test.true))

pub join-requires-clause-turn : goal.join-requires-clause-turn
join-requires-clause-turn g c = c.loop-k.invariant.0.turn ∙ c.requires.turn

pub join-requires-clause-other : goal.join-requires-clause-other
join-requires-clause-other g c =
    let olds = c.args.clients.now in
    let k = c.loop-k.k in
    let d = c.index-clients-k.result in
    let was = ap (λ (l : List (Served g.row.D.Denot g.row.S.Denot g.row.K.Denot g.row.C.Denot)). slice_index_or l k d) c.loop-k.invariant.1 ∙ changed_next unseated k olds d in
    let has : (slice_index_or olds k d).pass ≡ Some c.unseat-pass.result = ap (λ (s : Served g.row.D.Denot g.row.S.Denot g.row.K.Denot g.row.C.Denot). s.pass) (sym was) ∙ c.unseat-pass.ensures.pass in
    subst (λ (o : Option (Seat g.row.D.Denot)). IsOfTurn c.args.turn.now o) has (c.requires.seated k d c.loop-k-test.true)

pub loop-k-preserved : goal.loop-k-preserved
loop-k-preserved g c =
    let olds = c.args.clients.now in
    let clients = c.loop-k.clients in
    let k = c.loop-k.k in
    let d = c.index-clients-k.result in
    let was = ap (λ (l : List (Served g.row.D.Denot g.row.S.Denot g.row.K.Denot g.row.C.Denot)). slice_index_or l k d) c.loop-k.invariant.1 ∙ changed_next unseated k olds d in
    let has : (slice_index_or olds k d).pass ≡ Some c.unseat-pass.result = ap (λ (s : Served g.row.D.Denot g.row.S.Denot g.row.K.Denot g.row.C.Denot). s.pass) (sym was) ∙ c.unseat-pass.ensures.pass in
    let one = c.unseat-pass.ensures.left ∙ ap unseated was in (
      subst (λ (l : List (Served g.row.D.Denot g.row.S.Denot g.row.K.Denot g.row.C.Denot)). JoinsAll c.args.first.now l c.join.new.pass) (sym (take_next k olds d c.loop-k-test.true))
          (joins_more c.args.first.now (take k olds) (slice_index_or olds k d) c.loop-k.first c.unseat-pass.result c.join.new.pass c.loop-k.invariant.0 has c.join.ensures),
      ap (λ (s : Served g.row.D.Denot g.row.S.Denot g.row.K.Denot g.row.C.Denot). slice_set clients k s) one
          ∙ ap (λ (l : List (Served g.row.D.Denot g.row.S.Denot g.row.K.Denot g.row.C.Denot)). slice_set l k (unseated (slice_index_or olds k d))) c.loop-k.invariant.1
          ∙ changed_more unseated k olds d c.loop-k-test.true,
      omega (arith, c.loop-k-test.true),
    )

pub returns-clause-first : goal.returns-clause-first
returns-clause-first g c =
    let olds = c.args.clients.now in
    let all : c.loop-k.k ≡ length olds = omega (arith, c.loop-k.invariant.2, c.loop-k-test.false) in
    subst (λ (l : List (Served g.row.D.Denot g.row.S.Denot g.row.K.Denot g.row.C.Denot)). JoinsAll c.args.first.now l c.loop-k.first)
    (ap (λ (n : ℕ). take n olds) all ∙ take_all (length olds) olds (omega arith)) c.loop-k.invariant.0

pub returns-clause-clients : goal.returns-clause-clients
returns-clause-clients g c =
    let olds = c.args.clients.now in
    let all : c.loop-k.k ≡ length olds = omega (arith, c.loop-k.invariant.2, c.loop-k-test.false) in
    c.loop-k.invariant.1 ∙ ap (λ (n : ℕ). changed unseated n olds) all ∙ changed_all unseated olds
