use Rattle.std.proofs.Common.{ap, ◌∙◌}
use Rattle.key_index_map.specs.Table.{home}
use Rattle.key_index_map.proofs.Groups.{in_so_many, absent_ahead, absent_elsewhere}
use Rattle.key_index_map.proofs.Steps.{some_value}
use Rattle.key_index_map.proofs.table.Table.find_in_all.Goals as goal

pub returns-in-Absent-clause-none : goal.returns-in-Absent-clause-none
returns-in-Absent-clause-none g c =
    absent_ahead (in_so_many c.self.invariant.0 c.groups-groups.result c.groups-groups.ensures) g.met.K.Hash.respects_eq c.args.key c.self.inside.left c.args.self.now c.self.view_is c.home_of-home.result
    (c.home_of-home.ensures.home ∙ ap (home c.groups-groups.result) c.requires) c.in-Absent.field-0 c.in-Absent.ensures

pub returns-in_default : goal.returns-in_default
returns-in_default g c = record {
  found = tt;
  present = tt;
  none =
      absent_elsewhere (in_so_many c.self.invariant.0 c.groups-groups.result c.groups-groups.ensures) g.met.K.Hash.respects_eq c.args.key c.self.inside.left c.args.self.now c.self.view_is c.home_of-home.result
      (c.home_of-home.ensures.home ∙ ap (home c.groups-groups.result) c.requires) c.in-Onward.ensures c.search-in-Onward.result c.in_default.not-Found c.search-in-Onward.ensures;
}

pub returns-in-Found-clause-present : goal.returns-in-Found-clause-present
returns-in-Found-clause-present g c =
    some_value g.met.K.Eq.laws (in_so_many c.self.invariant.0 c.groups-groups.result c.groups-groups.ensures) c.args.self.now c.self.view_is c.in-Found.cell c.args.key c.in-Found.ensures

pub returns-in-Found-search-clause-present : goal.returns-in-Found-search-clause-present
returns-in-Found-search-clause-present g c =
    some_value g.met.K.Eq.laws (in_so_many c.self.invariant.0 c.groups-groups.result c.groups-groups.ensures) c.args.self.now c.self.view_is c.in-Found-search.cell c.args.key c.in-Found-search.ensures
