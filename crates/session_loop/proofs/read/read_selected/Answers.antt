-- The parts of the line, one after another.
use Rattle.session_loop.proofs.ReadingLemmas.{no_from, no_column_word, no_table_word, none_of}
use Rattle.session_loop.proofs.read.read_selected.Goals as goal

pub returns-in_default-behind-clause-means : goal.returns-in_default-behind-clause-means
returns-in_default-behind-clause-means c = no_from c.args.text.now c.in-Some.field.now c.in-Some.rest.now c.in-Some.ensures c.in_default-behind.ensures

pub returns-in_default-2-clause-means : goal.returns-in_default-2-clause-means
returns-in_default-2-clause-means c = no_column_word c.args.text.now c.in-Some.field.now c.in-Some.rest.now c.in-Some.ensures (none_of c.in_ok-field.field-0 _ _ c.in_default-2.is c.in_ok-field.ensures)

pub returns-in_default-3-clause-means : goal.returns-in_default-3-clause-means
returns-in_default-3-clause-means c = no_table_word c.args.text.now c.in-Some.field.now c.in-Some.rest.now c.in-Some.ensures c.in-Some-behind.measurement.now c.in-Some-behind.ensures
    (none_of c.in_ok-measurement.field-0 _ _ c.in_default-3.is c.in_ok-measurement.ensures)
