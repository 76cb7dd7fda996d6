-- What becomes of a list of clients that are served together?
use Rattle.std.specs.Prelude.{◌≡◌, List, [], ◌∷◌, ◌++◌, Option, None, Some}
use Rattle.session_io.specs.declared.report.End.{End}
use Rattle.session_io.specs.declared.report.Report.{Report}
use Rattle.session_io.specs.Clients.{closed_client}
use Rattle.session_io.specs.Directories.{Left, OfClient}
use Rattle.engine_session.specs.Devices.{Devices}
use Rattle.engine_clients.specs.declared.client.Seated.{Seated}

-- it is to be served
pub record IsNew {S K C P : Type 0} (seated : Seated S K C P) : Type 0 where
  pub unserved : seated.report ≡ None
  pub unseated : seated.pass ≡ None

-- what is left of it, with its report where it was served
abbrev pub left_by : {D S K C P : Type 0} → Devices S K C → Seated S K C P → Left D
left_by members seated = OfClient (closed_client members.given members.ended members.source_health members.written members.sink_health members.moments seated.client seated.report)

-- how a session ended, where there was one
abbrev pub end_in : Option Report → List End
end_in None = []
end_in (Some report) = report.end ∷ []

-- how the sessions ended of those that were served
abbrev pub ends_of : {S K C P : Type 0} → List (Seated S K C P) → List End
ends_of [] = []
ends_of (seated ∷ more) = end_in seated.report ++ ends_of more
