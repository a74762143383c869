-- At each turn the recording is as whole as at first.
use Rattle.std.proofs.Common.{◌≡◌}
use Rattle.rtcm_salvage.proofs.salvage.feed.Given as goal

abbrev pub invariant-loop : goal.invariant-loop
invariant-loop l = l.recording.whole ≡ l.fn.recording.whole
