-- One client more is closed.
use Rattle.std.proofs.Common.{◌≡◌, ◌++◌, ◌∷◌, [], reverse, refl, Some, None, sym, ap, ◌∙◌, arith, length-append}
use Rattle.std.proofs.lemmas.List.{reverse-reverse}
use Rattle.std.proofs.lemmas.List.Elements.{All-pop}
use Rattle.std.proofs.lemmas.List.Sorted.{All-permutation}
use Rattle.engine_session.specs.Devices.{devices}
use Rattle.tsm_server.proofs.DirectoriesLemmas.{closes_none}
use Rattle.tsm_server.proofs.SeatsLemmas.{left_more, waits_more}
use Rattle.tsm_server.proofs.clients.close_clients.Goals as goal

pub loop-client-init : goal.loop-client-init
loop-client-init g c = record {
  done = [];
  whole = sym (reverse-reverse c.args.clients.items) ∙ ap reverse (sym c.reverse.ensures.items);
  empty = All-permutation (λ s. s.pass ≡ None) c.args.clients.items c.reverse.new.self.items c.reverse.ensures.permutation c.requires.empty;
  closes = closes_none _;
  out = omega arith;
  dirs_out = refl;
}

pub close_one-requires-clause-empty : goal.close_one-requires-clause-empty
close_one-requires-clause-empty g c = λ κs live.
    (All-pop (λ s. s.pass ≡ None) c.loop-client.clients.items c.pop.new.self.items (Some c.in-Some.client) c.in-Some.ensures.items c.loop-client.invariant.empty).1

pub loop-client-preserved : goal.loop-client-preserved
loop-client-preserved g c =
    let was = c.loop-client.invariant in
    let one = c.in-Some.client in
    let long = length-append was.done (one ∷ []) in
    let out = was.out in
    let less = c.close_one.ensures.out in
    record {
      done = was.done ++ one ∷ [];
      whole = waits_more c.args.clients.items was.done c.loop-client.clients.items c.pop.new.self.items one was.whole c.in-Some.ensures.items;
      empty = (All-pop (λ s. s.pass ≡ None) c.loop-client.clients.items c.pop.new.self.items (Some one) c.in-Some.ensures.items was.empty).0;
      closes = left_more (devices g.K.Source.Source.given g.K.Source.Source.left g.K.Source.Source.ended g.K.Source.Source.health g.K.Sink.Sink.written g.K.Sink.Sink.health g.K.Clock.Clock.moments) was.done one _ _ _ was.closes c.close_one.ensures.closes;
      out = omega (arith, long, out, less);
      dirs_out = c.close_one.ensures.dirs_out ∙ was.dirs_out;
    }
