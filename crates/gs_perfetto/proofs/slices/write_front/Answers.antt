use Rattle.std.proofs.Common.{◌≡◌, ap, ◌∙◌, ◌++◌, ℕ, List, codes, decimal}
use Rattle.gs_timeline.proofs.Pieces.{adds_last}
use Rattle.gs_perfetto.specs.Events.{cpu_track, slice_front}
use Rattle.gs_perfetto.specs.declared.tracks.TheConstants.{CPU_SLICE}
use Rattle.gs_perfetto.proofs.Pieces.{front_told}
use Rattle.gs_perfetto.proofs.slices.write_front.Goals as goal

pub returns-clause-slice : goal.returns-clause-slice
returns-clause-slice c =
    let old = c.args.out.now in
    let s = c.args.stay.now in
    let head : List ℕ = CPU_SLICE.now in
    let time : List ℕ = codes ",\"ts\":" in
    let dur : List ℕ = codes ",\"dur\":" in
    let args : List ℕ = codes ",\"args\":{\"tid\":" in
    let tid : List ℕ = decimal s.tid in
    let new = c.push_two.new.self in
    let told : new.told ≡ old.told ++ slice_front s =
    front_told old.told c.push_number_digits.new.self.told new.told head (decimal c.cpu_track.result) time (decimal c.args.place.now) dur (decimal c.length_of-length.result) args tid c.in_ok-push_number_digits.ensures.told c.in_ok-push_two.ensures.told
    ∙ (ap (λ (n : ℕ). old.told ++ ((head ++ (decimal n ++ (time ++ decimal c.args.place.now))) ++ (dur ++ (decimal c.length_of-length.result ++ (args ++ tid))))) c.cpu_track.ensures
    ∙ (ap (λ (n : ℕ). old.told ++ ((head ++ (decimal (cpu_track s.cpu) ++ (time ++ decimal n))) ++ (dur ++ (decimal c.length_of-length.result ++ (args ++ tid))))) c.requires
    ∙ ap (λ (n : ℕ). old.told ++ ((head ++ (decimal (cpu_track s.cpu) ++ (time ++ decimal s.from))) ++ (dur ++ (decimal n ++ (args ++ tid))))) c.length_of-length.ensures)) in
    let same = c.in_ok-push_two.ensures.settled ∙ c.in_ok-push_number_digits.ensures.settled in
    adds_last (slice_front s) old.told old.settled new.told c.settle.new.self.settled told (ap (λ t. t.settled) c.settle.ensures ∙ ap (λ (t : List ℕ). t ++ new.told) same)
