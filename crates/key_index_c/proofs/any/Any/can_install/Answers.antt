use Rattle.key_index_c.proofs.RangeLemmas.{AreFit-equal}
use Rattle.key_index_c.proofs.any.Any.can_install.Goals as goal

pub returns-in-UnorderedByOne-self-clause-taken : goal.returns-in-UnorderedByOne-self-clause-taken
returns-in-UnorderedByOne-self-clause-taken c = λ fit. c.can_install.ensures.taken (AreFit-equal _ _ _ _ c.in-UnorderedByOne-self.is c.in-UnorderedByOne.is fit).1

pub returns-in-UnorderedByTwo-self-clause-taken : goal.returns-in-UnorderedByTwo-self-clause-taken
returns-in-UnorderedByTwo-self-clause-taken c = λ fit. c.can_install-in-UnorderedByTwo-self.ensures.taken (AreFit-equal _ _ _ _ c.in-UnorderedByTwo-self.is c.in-UnorderedByTwo.is fit).1

pub returns-in-OrderedByOne-self-clause-taken : goal.returns-in-OrderedByOne-self-clause-taken
returns-in-OrderedByOne-self-clause-taken c = λ fit. c.can_install-in-OrderedByOne-self.ensures.taken (AreFit-equal _ _ _ _ c.in-OrderedByOne-self.is c.in-OrderedByOne.is fit).1

pub returns-in-OrderedByTwo-self-clause-taken : goal.returns-in-OrderedByTwo-self-clause-taken
returns-in-OrderedByTwo-self-clause-taken c = λ fit. c.can_install-in-OrderedByTwo-self.ensures.taken (AreFit-equal _ _ _ _ c.in-OrderedByTwo-self.is c.in-OrderedByTwo.is fit).1
