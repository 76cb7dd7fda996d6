use Rattle.std.proofs.Common.{sym, subst}
use Rattle.point_model.specs.declared.part.Part.{Part}
use Rattle.series_index.specs.Evaluation.{AreLists, with_part}
use Rattle.series_index.proofs.StagingLemmas.{on_ok_map}
use Rattle.series_index.proofs.matching.take_part.Goals as goal

pub returns-in_ok-push-in-Test : goal.returns-in_ok-push-in-Test
returns-in_ok-push-in-Test c series_of told conditions are =
    subst (λ (p : Part). AreLists series_of c.args.all.now (with_part p conditions) c.push.new.self.items) (sym c.in-Test.is)
    (c.args.waiting.now.items, c.in_ok-ids-in-Test.ids, c.in_ok-push-in-Test.ensures.items, c.in_ok-ids-in-Test.ensures series_of told, are)

pub take_join-requires : goal.take_join-requires
take_join-requires c =
    let told = c.requires.told in
    let lists = c.requires.lists in (told.0, c.args.all.now, lists.0, told.1.all.ascending, lists.1 told.0 told.1)

pub returns-in-Join : goal.returns-in-Join
returns-in-Join c =
    on_ok_map c.take_join.result (λ made series_of told conditions are.
    subst (λ (p : Part). AreLists series_of c.args.all.now (with_part p conditions) c.take_join.new.waiting.items) (sym c.in-Join.is) (made series_of c.args.all.now conditions told.all.ascending are)) c.take_join.ensures
