use Rattle.std.specs.Fmt.{decimal, signed_decimal}
use Rattle.range_collections.specs.Reading.{signed_number, unsigned_number}
use Rattle.range_collections.proofs.Decimals.{no_signed, no_unsigned, signed_read_back, unsigned_read_back}
use Rattle.range_collections.proofs.ReadBack.{written_are_ranges, written_ranges_read}
use Rattle.range_collections.proofs.laws.ranges.texts_read_back.Goals as goal

pub returns : goal.returns
returns g c = record {
  ranges = λ items nothing h. written_are_ranges g.T.WholeNumber.number g.T.WholeNumber.digits nothing items h;
  same = λ items nothing h. written_ranges_read g.T.WholeNumber.number g.T.WholeNumber.digits nothing items h;
  unsigned = λ k items narrow h. (
    written_are_ranges (unsigned_number k) decimal (no_unsigned k) items (unsigned_read_back k items narrow h),
    written_ranges_read (unsigned_number k) decimal (no_unsigned k) items (unsigned_read_back k items narrow h),
  );
  signed = λ k items narrow h. (
    written_are_ranges (signed_number k) signed_decimal (no_signed k) items (signed_read_back k items narrow h),
    written_ranges_read (signed_number k) signed_decimal (no_signed k) items (signed_read_back k items narrow h),
  );
}
