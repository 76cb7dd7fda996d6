-- What is live of points, and behind entries?
use Rattle.std.specs.Prelude.{List}
use Rattle.point_model.specs.declared.entry.Entry.{Entry}
use Rattle.point_model.specs.Contents.{Content}
use Rattle.point_model.specs.Effects.{applied, effects}
use Rattle.point_model.specs.Points.{Points, value_at}

-- what points have where nothing covers them
abbrev pub held : Points → Content
held points cell = value_at points cell

-- what entries leave of a content
abbrev pub left : List Entry → Content → Content
left entries content cell = applied (effects entries cell) (content cell)
