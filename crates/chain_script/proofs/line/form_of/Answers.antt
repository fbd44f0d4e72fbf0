use Rattle.chain_script.proofs.line.form_of.Goals as goal

pub returns-in-CopyM : goal.returns-in-CopyM
returns-in-CopyM c = rw c.in-CopyM.is (c.copy_of.ensures c.args.buffer.now)

pub returns-in-PullUp : goal.returns-in-PullUp
returns-in-PullUp c = rw c.in-PullUp.is (c.pullup_of.ensures c.args.buffer.now)

pub returns-in-Adj : goal.returns-in-Adj
returns-in-Adj c = rw c.in-Adj.is (c.adj_of.ensures c.args.buffer.now)

pub returns-in-Split : goal.returns-in-Split
returns-in-Split c = rw c.in-Split.is (c.split_of.ensures c.args.buffer.now)

pub returns-in-Cat : goal.returns-in-Cat
returns-in-Cat c = rw c.in-Cat.is (c.cat_of.ensures c.args.buffer.now)

pub returns-in-CopyData : goal.returns-in-CopyData
returns-in-CopyData c = rw c.in-CopyData.is (c.copydata_of.ensures c.args.buffer.now)

pub returns-in-Show : goal.returns-in-Show
returns-in-Show c = rw c.in-Show.is (c.show_of.ensures c.args.buffer.now)

pub returns-in-Free : goal.returns-in-Free
returns-in-Free c = rw c.in-Free.is (c.free_of.ensures c.args.buffer.now)

pub returns-in-MbStat : goal.returns-in-MbStat
returns-in-MbStat c = rw c.in-MbStat.is (c.usage_of.ensures c.args.buffer.now)
