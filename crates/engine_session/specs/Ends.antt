-- Why did a session end so?
use Rattle.std.specs.Prelude.{◌≡◌, Bool, true}
use Rattle.shard_disk.specs.Health.{Ages, Failed, Health}
use Rattle.session_io.specs.declared.report.Report.{Report}
use Rattle.session_io.specs.declared.report.End.TheVariants.{Read, SourceFault, SinkFault}
use Rattle.session_loop.specs.Sessions.{IsQuietEnd}

-- Each end but want of memory has its cause: the source has ended, or the count of a device rose. No other device met a fault.
pub record EndsBy {S K : Type 0} (ended : S → Bool) (source_health : S → Health) (sink_health : K → Health) (source_old source_new : S) (sink_old sink_new : K) (report : Report) : Type 0 where
  pub read : report.end ≡ Read → ended source_new ≡ true
  pub source_fault : report.end ≡ SourceFault → Failed (source_health source_old) (source_health source_new)
  pub sink_fault : report.end ≡ SinkFault → Failed (sink_health sink_old) (sink_health sink_new)
  pub source_ages : Ages (source_health source_old) (source_health source_new)
  pub sink_ages : Ages (sink_health sink_old) (sink_health sink_new)
  pub quiet : IsQuietEnd report.end (source_health source_old) (source_health source_new) (sink_health sink_old) (sink_health sink_new)
