mod Castled
