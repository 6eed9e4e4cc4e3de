-- What an answer leaves of an adapter over std's readers and writers.
use Rattle.std.specs.Prelude.{ℕ, ◌≤◌, true, List, length, take, Option}
use Rattle.std.specs.Io.KnownBytes.{Appends}
use Rattle.ep_edge.specs.declared.data.ReaderData.{ReaderData}
use Rattle.ep_edge.specs.declared.data.WriterData.{WriterData}
use Rattle.ep_edge.specs.declared.source.Got.{Got}
use Rattle.ep_edge.specs.declared.source.Got.TheVariants.{Bytes, End, Failed}
use Rattle.ep_edge.specs.declared.sink.Put.{Put}
use Rattle.ep_edge.specs.declared.sink.Put.TheVariants as put
use Rattle.ep_model.specs.Counts.{raised}

-- known bytes grew by the first of these
abbrev pub AppendsSome : Option (List ℕ) → Option (List ℕ) → List ℕ → Type 0
AppendsSome old new bytes = (count : ℕ) × (count ≤ length bytes) × Appends old new (take count bytes)

-- a reader's source after this answer, which left it this reader
abbrev pub after_got : {R : Type 0} → R → ReaderData R → Got → ReaderData R
after_got reader source (Bytes n) = record source { reader = reader; ended_before = source.ended }
after_got reader source End = record source { reader = reader; ended = true; ended_before = source.ended }
after_got reader source Failed = record source { reader = reader; ended_before = source.ended; faults = raised source.faults }

-- a writer's sink after this answer to a write of so many bytes, which left it this writer
abbrev pub after_put : {W : Type 0} → W → WriterData W → ℕ → Put → WriterData W
after_put writer sink offered put.Done = record sink { writer = writer; faults_before = sink.faults; offered = offered }
after_put writer sink offered put.Failed = record sink { writer = writer; faults = raised sink.faults; faults_before = sink.faults; offered = offered }
