use Rattle.std.proofs.Common.{◌≡◌, ◌∷◌, ◌++◌, [], List, replicate, ap, sym, ◌∙◌}
use Rattle.std.specs.Prelude.{ℤ, pos}
use Rattle.time_codec.specs.declared.evenly.Evenly.{Evenly}
use Rattle.time_codec.specs.Reading.{times_behind}
use Rattle.time_codec.proofs.EvenlyLemmas.{drained}
use Rattle.time_codec.proofs.early.early_times.Goals as goal

pub returns : goal.returns
returns c =
    let ran = c.in_ok-extend.ensures.ran in
    let rest : Evenly → List ℤ = λ even. times_behind (pos even.before) (replicate even.left even.distance) in
    let put : c.push.new.self.items ≡ pos c.args.start ∷ [] =
    c.in_ok-push.ensures.items ∙ ap (λ front. front ++ c.early_moment.result ∷ []) c.in_ok-times.ensures.items ∙ ap (λ t. t ∷ []) c.early_moment.ensures in
    ran.3.0
    ∙ ap (λ front. front ++ ran.1) put
    ∙ ap (λ ts. pos c.args.start ∷ ts) (sym (drained rest ran.0 ran.1 ran.4) ∙ ap rest ran.2 ∙ c.behind.ensures)
