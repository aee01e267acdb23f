-- What is shown of some files. Assumes nothing.
use Rattle.std.specs.Prelude.{None}
use mathlib.Core.Path.{◌≡◌, refl}
use mathlib.Core.List.{[]}
use Rattle.util.specs.Outcome.{◌>>=◌ as ◌andThen◌}
use Rattle.scripts.specs.Script.{run, outcome_of, bytes_at, ◌>>=◌, ◌>>◌}
use Rattle.reading.specs.Tex.{read_header, read_tex}
use Rattle.places.specs.Sources.{sources_of}
use Rattle.pam.specs.Pam.{pam_of}
use Rattle.show.specs.Show.{Refused, shown_of}

pub record Examples : Type 0 where
  -- an empty file: "Want is the length at which the failed take passes: 60"
  pub empty_file : shown_of [] 0 None ≡ Refused 1 60

-- By computation.
pub examples : Examples
unfolding run outcome_of bytes_at ◌>>=◌ ◌>>◌ ◌andThen◌ read_header read_tex sources_of pam_of shown_of
examples = record { empty_file = refl }
