-- `record::reading::open_record` meets its contract: the first test that fails is the refusal. Assumes nothing.
use Rattle.codec.proofs.Opening.{cut-head, size_low, size-high, cut-body, other-kind, uneven, opened}
use Rattle.record.proofs.reading.open_record.Goals as goal

pub returns-then-bytes-lt4 : goal.returns-then-bytes-lt4
returns-then-bytes-lt4 c = cut-head c.args.bytes.now c.if-bytes-lt4.true

pub returns-then-size-lt2 : goal.returns-then-size-lt2
returns-then-size-lt2 c =
    size_low c.args.bytes.now c.if-bytes-lt4.false c.read_le-size.result c.read_le-size.ensures.value c.if-size-lt2.true

pub returns-then-size-gt57346 : goal.returns-then-size-gt57346
returns-then-size-gt57346 c =
    size-high c.args.bytes.now c.if-bytes-lt4.false c.read_le-size.result c.read_le-size.ensures.value c.if-size-gt57346.true

pub returns-then-bytes-size : goal.returns-then-bytes-size
returns-then-bytes-size c =
    cut-body c.args.bytes.now c.if-bytes-lt4.false c.read_le-size.result c.read_le-size.ensures.value c.if-size-lt2.false c.if-size-gt57346.false c.if-bytes-size.true

pub returns-then-read_le-ne1 : goal.returns-then-read_le-ne1
returns-then-read_le-ne1 c =
    other-kind c.args.bytes.now c.if-bytes-lt4.false c.read_le-size.result c.read_le-size.ensures.value c.if-size-lt2.false c.if-size-gt57346.false c.if-bytes-size.false
    c.read_le.result c.read_le.ensures.value c.if-read_le-ne1.true

pub returns-then-size-ne0 : goal.returns-then-size-ne0
returns-then-size-ne0 c =
    uneven c.args.bytes.now c.if-bytes-lt4.false c.read_le-size.result c.read_le-size.ensures.value c.if-size-lt2.false c.if-size-gt57346.false c.if-bytes-size.false
    c.read_le.result c.read_le.ensures.value c.if-read_le-ne1.false c.if-size-ne0.true

pub returns : goal.returns
returns c =
    opened c.args.bytes.now c.if-bytes-lt4.false c.read_le-size.result c.read_le-size.ensures.value c.if-size-lt2.false c.if-size-gt57346.false c.if-bytes-size.false
    c.read_le.result c.read_le.ensures.value c.if-read_le-ne1.false c.if-size-ne0.false
