use Rattle.std.proofs.Common.{◌≡◌, drop, take}
use Rattle.mx_check.specs.Flights.{flight_of}
use Rattle.mx_check.proofs.flight.Flights.of.Given as goal

abbrev pub invariant-loop-i : goal.invariant-loop-i
invariant-loop-i l =
    let flights = take l.self-inside.len l.self-inside.items in
    flight_of (drop l.i flights) l.hart ≡ flight_of flights l.hart
