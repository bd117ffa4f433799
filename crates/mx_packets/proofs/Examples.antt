-- Worked examples of packets, of what they ask, and of answers, computed.
use Rattle.std.specs.Prelude.{◌≡◌, ℕ, List, [], ◌∷◌, ◌++◌, codes, refl}
use Rattle.std.specs.Prelude.{map as list_map}
use Rattle.mx_packets.specs.declared.request.Object.TheVariants as O
use Rattle.mx_packets.specs.declared.request.Request.{Request}
use Rattle.mx_packets.specs.declared.request.Request.TheVariants as R
use Rattle.mx_packets.specs.declared.request.Thread.TheVariants as T
use Rattle.mx_packets.specs.Packets.{none_gathered}
use Rattle.mx_packets.specs.Requests.{request_of}
use Rattle.mx_packets.specs.Streams.{Packet, Told, Wrong, sent, told_all}

abbrev heard_in : List ℕ → List Told
heard_in bytes = told_all none_gathered bytes

-- the manual's packet, its sum in digits of either case, and two in a row with acknowledgements and an interrupt between them
one_packet : heard_in (codes "$m80000000,4#55") ≡ Packet (codes "m80000000,4") ∷ []
one_packet = refl

either_case : heard_in (codes "$?#3f$?#3F") ≡ Packet (codes "?") ∷ Packet (codes "?") ∷ []
either_case = refl

two_packets : heard_in (codes "+$g#67" ++ 3 ∷ codes "-$?#3f") ≡ Packet (codes "g") ∷ Packet (codes "?") ∷ []
two_packets = refl

-- a sum that isn't that of the bytes, and one that is no number
wrong_sums : heard_in (codes "$g#68$g#6x$g#x$gx#67$g#67") ≡ Wrong ∷ Wrong ∷ Wrong ∷ Wrong ∷ Packet (codes "g") ∷ []
wrong_sums = refl

-- no end, and one that begins anew
no_end : heard_in (codes "$g#6") ≡ []
no_end = refl

begun_anew : heard_in (codes "$m80$g#67") ≡ Packet (codes "g") ∷ []
begun_anew = refl

-- an escaped byte counts as it was sent, and is meant with bit 5 changed
escapes : heard_in (codes "$X}" ++ 3 ∷ codes "#d8") ≡ Packet (codes "X#") ∷ []
escapes = refl

-- answers: nothing, `OK`, and the four bytes that are escaped
answers : list_map sent ([] ∷ codes "OK" ∷ codes "#$}*" ∷ []) ≡ codes "$#00" ∷ codes "$OK#9a"
    ∷ (codes "$}" ++ 3 ∷ codes "}" ++ 4 ∷ codes "}]}" ++ 10 ∷ codes "#62") ∷ []
answers = refl

abbrev asks : List (List ℕ) → List Request
asks packets = list_map request_of packets

-- what each packet asks
letters : asks (codes "?" ∷ codes "!" ∷ codes "g" ∷ codes "c" ∷ codes "s" ∷ codes "C05" ∷ codes "S05" ∷ codes "D" ∷ codes "D;1" ∷ codes "k"
    ∷ codes "G00" ∷ codes "P1=0" ∷ codes "M0,1:0" ∷ codes "X0,1:0" ∷ [])
    ≡ R.Why ∷ R.Extend ∷ R.Registers ∷ R.Go ∷ R.Step T.Any ∷ R.Go ∷ R.Step T.Any ∷ R.Leave ∷ R.Leave ∷ R.Kill ∷ R.Change ∷ R.Change
    ∷ R.Change ∷ R.Change ∷ []
letters = refl

nothing_behind : asks (codes "?1" ∷ codes "g1" ∷ codes "c80000000" ∷ codes "k1" ∷ codes "b" ∷ [] ∷ [])
    ≡ R.Unknown ∷ R.Unknown ∷ R.Unknown ∷ R.Unknown ∷ R.Unknown ∷ R.Unknown ∷ []
nothing_behind = refl

threads : asks (codes "Hg0" ∷ codes "Hg-1" ∷ codes "Hgp1.2" ∷ codes "Hc2" ∷ codes "Hcp1.-1" ∷ codes "Hgp1.x" ∷ codes "Hx1" ∷ codes "Tp1.4"
    ∷ codes "T0" ∷ [])
    ≡ R.Show T.Any ∷ R.Show T.Any ∷ R.Show (T.Hart 1) ∷ R.Follow (T.Hart 1) ∷ R.Follow T.Any ∷ R.Show T.Wrong ∷ R.Unknown
    ∷ R.IsThere (T.Hart 3) ∷ R.IsThere T.Any ∷ []
threads = refl

numbers : asks (codes "p20" ∷ codes "p" ∷ codes "pffffffff" ∷ codes "p100000000" ∷ codes "m80000000,4" ∷ codes "m80000000"
    ∷ codes "mffffffff,ffffffff" ∷ codes "m100000000,4" ∷ [])
    ≡ R.Register 32 ∷ R.Wrong ∷ R.Register 0xffffffff ∷ R.Wrong ∷ R.Memory 0x80000000 4 ∷ R.Wrong ∷ R.Memory 0xffffffff 0xffffffff ∷ R.Wrong
    ∷ []
numbers = refl

points : asks (codes "Z0,80000004,4" ∷ codes "Z1,80000004,4" ∷ codes "z0,80000004,4" ∷ codes "z1,80000004,2" ∷ codes "Z2,80000004,4"
    ∷ codes "z2,0,0" ∷ codes "Z0,x,4" ∷ codes "z0" ∷ [])
    ≡ R.Set 0x80000004 ∷ R.Set 0x80000004 ∷ R.Clear 0x80000004 ∷ R.Clear 0x80000004 ∷ R.Unknown ∷ R.Unknown ∷ R.Wrong ∷ R.Unknown ∷ []
points = refl

ways : asks (codes "vCont?" ∷ codes "vCont;c" ∷ codes "vCont;C05:p1.1" ∷ codes "vCont;s:p1.2;c" ∷ codes "vCont;s"
    ∷ codes "vCont;S05:1;c:p1.-1" ∷ codes "vCont;t" ∷ codes "vCont;" ∷ codes "vKill;1" ∷ codes "vMustReplyEmpty" ∷ [])
    ≡ R.Ways ∷ R.Go ∷ R.Go ∷ R.Step (T.Hart 1) ∷ R.Step T.Any ∷ R.Step (T.Hart 0) ∷ R.Wrong ∷ R.Wrong ∷ R.End ∷ R.Unknown ∷ []
ways = refl

ranges : asks (codes "vCont;r80000000,80000010:p1.1;c:p1.-1" ∷ codes "vCont;r80000000,80000010" ∷ codes "vCont;r80000000:p1.1" ∷ [])
    ≡ R.Range (T.Hart 0) 0x80000000 0x80000010 ∷ R.Range T.Any 0x80000000 0x80000010 ∷ R.Wrong ∷ []
ranges = refl

queries : asks (codes "qSupported:multiprocess+" ∷ codes "qAttached:1" ∷ codes "qfThreadInfo" ∷ codes "qsThreadInfo" ∷ codes "qC"
    ∷ codes "qCRC:0,4" ∷ codes "qSymbol::" ∷ codes "QStartNoAckMode" ∷ codes "QNonStop:1" ∷ [])
    ≡ R.Supported ∷ R.Attached ∷ R.Threads ∷ R.MoreThreads ∷ R.Current ∷ R.Unknown ∷ R.Unknown ∷ R.NoAcks ∷ R.Unknown ∷ []
queries = refl

objects : asks (codes "qXfer:features:read:target.xml:0,ffb" ∷ codes "qXfer:features:read:other.xml:0,ffb"
    ∷ codes "qXfer:features:read:target.xml:0" ∷ codes "qXfer:auxv:read::0,ffb" ∷ [])
    ≡ R.Part O.Target 0 0xffb ∷ R.Unknown ∷ R.Wrong ∷ R.Unknown ∷ []
objects = refl
