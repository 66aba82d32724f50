use Rattle.std.proofs.Common.{arith, ◌≡◌, ℕ, ◌^◌, ◌-◌, ◌%◌, false, [], append-nil}
use Rattle.std.specs.Fmt.{decimal, padded_integral, format_spec, char_count}
use Rattle.std.proofs.KnownBytes.{Appends-kept, Appends-trans}
use Rattle.argon2_calibrate.specs.Answer.{six_places}
use Rattle.argon2_calibrate.proofs.run.write_lines.Goals as goal

-- a number that is padded with zeros to a width of six has six digits
padded_integral-six_places : (n : ℕ) → padded_integral (format_spec 32 0 4 6 (2 ^ 64 - 1)) false [] (decimal n) ≡ six_places n
unfolding padded_integral char_count
padded_integral-six_places n = rw append-nil (grind arith)

pub returns : goal.returns
returns g c =
    let places = padded_integral-six_places (c.args.found.choice.time % 1000000) in
    let costs = Appends-trans _ _ _ _ _ c.in_ok-writeln.ensures.bytes c.in_ok-writeln-2.ensures.bytes in
    let timed = Appends-trans _ _ _ _ _ costs (rw (c.laid_out.ensures, places) at c.in_ok-writeln-3.ensures.bytes) in
    let ended = Appends-trans _ _ _ _ _ timed
    (rw (c.as_bytes.ensures.value, c.busy_line.ensures) at c.in_ok-write_all.ensures.bytes) in
    Appends-kept _ _ _ _ ended c.in_ok-flush.ensures.bytes
