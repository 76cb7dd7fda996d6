mod TwoSeries
