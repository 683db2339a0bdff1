use Rattle.std.proofs.Common.{lit<}
use Rattle.key_index_c.proofs.RangeLemmas.{AreFit-equal}
use Rattle.key_index_c.proofs.any.Any.install.Goals as goal

pub install_range-requires : goal.install_range-requires
install_range-requires c = (lit< tt, (lit< tt, (AreFit-equal _ _ _ _ c.in-UnorderedByOne-self.is c.in-UnorderedByOne.is c.requires.free).1))

pub install_range-requires-in-UnorderedByTwo-self : goal.install_range-requires-in-UnorderedByTwo-self
install_range-requires-in-UnorderedByTwo-self c = (lit< tt, (lit< tt, (AreFit-equal _ _ _ _ c.in-UnorderedByTwo-self.is c.in-UnorderedByTwo.is c.requires.free).1))

pub install_range-requires-in-OrderedByOne-self : goal.install_range-requires-in-OrderedByOne-self
install_range-requires-in-OrderedByOne-self c = (lit< tt, (lit< tt, (AreFit-equal _ _ _ _ c.in-OrderedByOne-self.is c.in-OrderedByOne.is c.requires.free).1))

pub install_range-requires-in-OrderedByTwo-self : goal.install_range-requires-in-OrderedByTwo-self
install_range-requires-in-OrderedByTwo-self c = (lit< tt, (lit< tt, (AreFit-equal _ _ _ _ c.in-OrderedByTwo-self.is c.in-OrderedByTwo.is c.requires.free).1))
