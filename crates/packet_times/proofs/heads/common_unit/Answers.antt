use Rattle.std.proofs.Common.{◌<◌, ◌*◌, ◌^◌, rules}
use Rattle.packet_times.proofs.Units.{IsShared, greatest_of_two, none_as, none_of_two, shared_of, some_more}
use Rattle.packet_times.proofs.heads.common_unit.Goals as goal

pub lowest-requires : goal.lowest-requires
lowest-requires c =
    (shared_of c.args.one c.args.other c.from.result c.from-2.result c.from-3.result c.from-4.result c.from-5.result c.from-6.result c.gcd.result c.requires.0 c.requires.1 c.from.ensures c.from-2.ensures c.from-3.ensures c.from-4.ensures c.from-5.ensures c.from-6.ensures c.gcd.ensures).positive

pub returns-clause-greatest : goal.returns-clause-greatest
returns-clause-greatest c =
    let shared : IsShared c.args.one c.args.other (c.from.result * c.from-2.result) c.gcd.result =
    shared_of c.args.one c.args.other c.from.result c.from-2.result c.from-3.result c.from-4.result c.from-5.result c.from-6.result c.gcd.result c.requires.0 c.requires.1 c.from.ensures c.from-2.ensures c.from-3.ensures c.from-4.ensures c.from-5.ensures c.from-6.ensures c.gcd.ensures in
    some_more c.lowest.result (λ unit low. greatest_of_two c.args.one c.args.other unit (c.from.result * c.from-2.result) c.gcd.result c.requires.0 c.requires.1 shared low) c.lowest.ensures.lowest

pub returns-clause-none : goal.returns-clause-none
returns-clause-none c =
    let shared : IsShared c.args.one c.args.other (c.from.result * c.from-2.result) c.gcd.result =
    shared_of c.args.one c.args.other c.from.result c.from-2.result c.from-3.result c.from-4.result c.from-5.result c.from-6.result c.gcd.result c.requires.0 c.requires.1 c.from.ensures c.from-2.ensures c.from-3.ensures c.from-4.ensures c.from-5.ensures c.from-6.ensures c.gcd.ensures in
    let short : c.args.one.1 < 2 ^ 32 = search rules in
    none_as c.lowest.result (λ none. none_of_two c.args.one c.args.other (c.from.result * c.from-2.result) c.gcd.result c.requires.0 c.requires.1 short shared none) c.lowest.ensures.none
