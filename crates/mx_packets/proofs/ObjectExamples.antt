-- Worked examples of packets that ask for a part of an object, or what is said of a hart, computed.
use Rattle.std.specs.Prelude.{◌≡◌, codes, refl}
use Rattle.mx_packets.specs.declared.request.Object.TheVariants as O
use Rattle.mx_packets.specs.declared.request.Request.TheVariants as R
use Rattle.mx_packets.specs.declared.request.Thread.TheVariants as T
use Rattle.mx_packets.specs.Requests.{request_of}

target : request_of (codes "qXfer:features:read:target.xml:0,ffb") ≡ R.Part O.Target 0 4091
target = refl

threads : request_of (codes "qXfer:threads:read::ffb,10") ≡ R.Part O.Threads 4091 16
threads = refl

libraries : request_of (codes "qXfer:libraries:read::0,ffffffff") ≡ R.Part O.Libraries 0 4294967295
libraries = refl

memory : request_of (codes "qXfer:memory-map:read::1,2") ≡ R.Part O.Memory 1 2
memory = refl

-- the file of process 1, or of none that is named
file : request_of (codes "qXfer:exec-file:read:1:0,ffb") ≡ R.Part O.File 0 4091
file = refl

file_of_any : request_of (codes "qXfer:exec-file:read::0,ffb") ≡ R.Part O.File 0 4091
file_of_any = refl

file_of_two : request_of (codes "qXfer:exec-file:read:2:0,ffb") ≡ R.Wrong
file_of_two = refl

-- a number that is none, or too great
no_place : request_of (codes "qXfer:threads:read::,10") ≡ R.Wrong
no_place = refl

no_count : request_of (codes "qXfer:libraries:read::0") ≡ R.Wrong
no_count = refl

great : request_of (codes "qXfer:memory-map:read::100000000,1") ≡ R.Wrong
great = refl

no_numbers : request_of (codes "qXfer:exec-file:read:1:") ≡ R.Wrong
no_numbers = refl

-- an annex where there is none, another description, another object, and nothing that can be written
annex : request_of (codes "qXfer:threads:read:a:0,ffb") ≡ R.Unknown
annex = refl

other_annex : request_of (codes "qXfer:features:read:other.xml:0,ffb") ≡ R.Unknown
other_annex = refl

other_object : request_of (codes "qXfer:auxv:read::0,ffb") ≡ R.Unknown
other_object = refl

written : request_of (codes "qXfer:threads:write::0") ≡ R.Unknown
written = refl

-- what is said of a hart
about : request_of (codes "qThreadExtraInfo,p1.2") ≡ R.About (T.Hart 1)
about = refl

about_any : request_of (codes "qThreadExtraInfo,p1.0") ≡ R.About T.Any
about_any = refl

about_none : request_of (codes "qThreadExtraInfo,x") ≡ R.About T.Wrong
about_none = refl

no_comma : request_of (codes "qThreadExtraInfo") ≡ R.Unknown
no_comma = refl
