use Rattle.key_index_map.proofs.Groups.{in_so_many}
use Rattle.key_index_map.proofs.Free.{first, second, never, tags_long}
use Rattle.key_index_map.proofs.table.Table.free_from.Goals as goal

pub returns-in-Some : goal.returns-in-Some
returns-in-Some g c = first c.args.self.now c.args.home c.in-Some.cell c.in-Some.ensures.0

pub unreachable-requires : goal.unreachable-requires
unreachable-requires g c =
    never (in_so_many c.self.invariant.0 c.groups.result c.groups.ensures) c.self.inside.left c.args.self.now c.self.view_is c.args.home c.in_default.ensures c.in_default-free_in.ensures c.requires.room

pub returns : goal.returns
returns g c =
    second c.args.self.now c.args.home c.groups.result (tags_long (in_so_many c.self.invariant.0 c.groups.result c.groups.ensures) c.self.inside.left c.args.self.now c.self.view_is)
    c.in_default.ensures c.in-Some-free_in.cell c.in-Some-free_in.ensures.0 c.in-Some-free_in.ensures.1
